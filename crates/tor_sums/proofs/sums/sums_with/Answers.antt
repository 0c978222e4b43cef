use Rattle.std.proofs.Common.{ap, length, sym, ◌∙◌}
use Rattle.std.proofs.lemmas.List.{length-map}
use Rattle.tor_sums.proofs.sums.sums_with.Goals as goal

pub returns-clause-summed : goal.returns-clause-summed
returns-clause-summed c = λ kind p contents joined fit trees pieces.
    let count = sym (c.len.ensures ∙ c.args.lengths.ok.0 ∙ ap length (sym fit) ∙ length-map contents length) in
    let all = c.in_ok-roots.ensures kind p contents count trees in
    record { lengths = sym fit; roots = all.0; layers = all.1; pieces = c.in_ok-pieces.ensures ∙ pieces }
