use Rattle.std.proofs.Common.{◌≡◌, ◌∙◌, List, Vec, ap, length, replicate, sym}
use Rattle.std.proofs.lemmas.List.{with_items_is}
use Rattle.tor_sums.specs.steps.Owing.{paid_each}
use Rattle.tor_engine.specs.declared.pieces.found_row.FoundRow.TheInside.{Inside}
use Rattle.tor_engine.specs.declared.pieces.piece_hash.FoundPiece.{FoundPiece}
use Rattle.tor_engine.specs.declared.pieces.piece_hash.FoundPiece.TheVariants.{Missing}
use Rattle.tor_engine.specs.steps.FoundRow.{found_in}
use Rattle.tor_engine.specs.steps.Pieces.{owed_to_piece, paid_piece}
use Rattle.tor_engine.proofs.FoundRows.{missing_paid}
use Rattle.tor_engine.proofs.Unsummed.{paid_length}
use Rattle.tor_engine.proofs.pieces.found_row.FoundRow.take_own.Goals.{in-AllMissing, in-Each}
use Rattle.tor_engine.proofs.pieces.found_row.FoundRow.take_own.Goals as goal

pub returns-clause-paid : goal.returns-clause-paid
returns-clause-paid c =
    let sums = c.args.sums.now in
    let paid = λ (found : List FoundPiece). paid_each owed_to_piece paid_piece found sums in
    elim c.match-self.branch [
      | in-AllMissing w ↦
          let count = w.in-AllMissing.field-0 in
          let old : replicate count Missing ≡ c.args.self.now = ap found_in (sym w.in-AllMissing.is) ∙ c.self.view_is in
          ap (λ (inside : Inside). found_in inside.row) w.self-inside-is
          ∙ c.self.view_is ∙ sym old ∙ missing_paid count sums ∙ ap paid old
      | in-Each w ↦
          let found = w.deref_mut.result.now in
          let old : found.items ≡ c.args.self.now =
          ap (λ (each : Vec FoundPiece _). each.items) w.deref_mut.ensures.value
          ∙ ap found_in (sym w.in-Each.is) ∙ c.self.view_is in
          let same = w.pay.ensures.paid ∙ ap paid w.as_mut_slice.ensures.value in
          let long = ap length same ∙ paid_length owed_to_piece paid_piece found.items sums ∙ sym found.ok.0 in
          ap (λ (inside : Inside). found_in inside.row) w.self-inside-is
          ∙ with_items_is found w.pay.new.items long ∙ same ∙ ap paid old
    ]
