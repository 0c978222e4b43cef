-- No bytes are no piece.
use Rattle.std.proofs.Common.{◌∙◌, ap, inl, sym}
use Rattle.std.proofs.lemmas.Bool.{eqb-true}
use Rattle.tor_c.specs.Proofs.{truth_answer}
use Rattle.tor_c.proofs.Pieces.{none_of_empty}
use Rattle.tor_c.proofs.verify.answer_to_bytes.Goals as goal

pub returns-then-is_empty : goal.returns-then-is_empty
returns-then-is_empty c =
    let empty = eqb-true _ _ (sym c.is_empty.ensures ∙ c.if-is_empty.true) in
    inl (sym (ap truth_answer
    (none_of_empty c.args.claim.now c.args.bytes.now c.args.siblings.now c.requires.allowed c.requires.some empty)))
