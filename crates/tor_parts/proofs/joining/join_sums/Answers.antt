-- the sums of contents whose pieces have these hashes
use Rattle.std.proofs.Common.{ap, ap₂, refl, ◌∙◌}
use Rattle.tor_sums.specs.declared.sums.Sums.{Sums}
use Rattle.tor_tree.specs.Kinds.{has_v2}
use Rattle.std.proofs.Common.{length, replicate, None, []}
use Rattle.tor_parts.specs.Joining.{layers_over, roots_over}
use Rattle.tor_parts.proofs.PlanSums.{sums_are}
use Rattle.tor_parts.proofs.joining.join_sums.Goals as goal

pub returns-clause-summed : goal.returns-clause-summed
returns-clause-summed c = λ contents fit row.
    let hashes = c.args.hashes.now in
    let trees = c.in_ok-trees.ensures in
    let listed = c.in_ok-lengths.ensures.items ∙ c.lengths.ensures in
    let same = c.deref.ensures.value ∙ listed in
    let is_length = c.piece_length.ensures in
    let kind = ap has_v2 c.kind.ensures in
    let sums : Sums = record {
      lengths = c.in_ok-lengths.lengths;
      roots = c.in_ok-trees.trees.roots;
      layers = c.in_ok-trees.trees.layers;
      pieces = c.args.pieces;
    } in
    sums_are c.args.plan.now c.units-planned.ensures.planned contents fit hashes c.args.pieces.items row sums listed
    (λ there. (trees.trees (kind ∙ there)).roots ∙ ap₂ (λ p ls. roots_over p ls hashes) is_length same)
    (λ none. (trees.none (kind ∙ none)).roots ∙ ap (λ ls. replicate (length ls) None) same)
    (λ there. (trees.trees (kind ∙ there)).layers ∙ ap₂ (λ p ls. layers_over p ls hashes) is_length same)
    (λ none. (trees.none (kind ∙ none)).layers ∙ ap (λ ls. replicate (length ls) []) same)
    refl
