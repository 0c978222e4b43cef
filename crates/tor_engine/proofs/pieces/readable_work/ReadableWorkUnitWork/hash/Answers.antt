-- the whole unit, or each piece
use Rattle.std.proofs.Common.{inl, inr, length, map, subst, sym, ◌∙◌}
use Rattle.tor_plan.specs.Pieces.{pieces_of_unit}
use Rattle.tor_sums.specs.Contents.{contents_in}
use Rattle.tor_sums.specs.steps.Given.{IsGivenRead, lengths_of_sizes}
use Rattle.tor_engine.specs.Readable.{IsNoReadFault}
use Rattle.tor_engine.specs.steps.Pieces.{hashes_in, unit_pieces_fault}
use Rattle.tor_engine.specs.steps.Readable.{FindsUnit}
use Rattle.tor_sums.proofs.PaidSums.{if_ok_more}
use Rattle.tor_engine.proofs.Each.{each_next}
use Rattle.tor_engine.proofs.FoundReadable.{finds_clean}
use Rattle.tor_engine.proofs.ReadFaults.{both_err, both_ok, no_other, no_read, pieces_are_read}
use Rattle.tor_engine.proofs.pieces.readable_work.ReadableWorkUnitWork.hash.Goals as goal

pub returns-in-Ok-clause-stands : goal.returns-in-Ok-clause-stands
returns-in-Ok-clause-stands g c = λ units before each.
    let work = c.args.self.now in
    let plan = work.plan.now in
    let is_steady = g.S.FileBytes.is_steady work.source.now in
    let told = work.known.now.lengths.items in
    let may_be = IsGivenRead (g.S.FileBytes.answers work.source.now) (lengths_of_sizes told) in
    let pieces = pieces_of_unit plan.piece_length c.args.unit.now in (
      c.in-Ok.ensures.owing,
      each_next (FindsUnit is_steady may_be plan told) units c.args.unit.now before _ each.1
          (finds_clean is_steady may_be plan told pieces (map hashes_in c.in-Ok.found.pieces)
          c.in-Ok.ensures.hashed.steady c.in-Ok.ensures.hashed.there c.in-Ok.ensures.fault),
    )

pub returns-in-Err-as_read_fault-clause-fault : goal.returns-in-Err-as_read_fault-clause-fault
returns-in-Err-as_read_fault-clause-fault g c = λ facts steady.
    let work = c.args.self.now in
    let plan = work.plan.now in
    let contents = contents_in facts (length plan.lengths) in
    elim (c.in-Err.ensures.fault facts steady.0 steady.1) [
      | inl memory ↦ inl (c.in-Err-as_read_fault.ensures.0 ∙ memory)
      | inr fault ↦ absurd (no_other facts (unit_pieces_fault facts plan contents c.args.unit.now) c.in-Err.error
          (pieces_are_read facts contents (pieces_of_unit plan.piece_length c.args.unit.now)) fault
          c.in-Err-as_read_fault.ensures.1)
    ]

pub returns-in-Err-as_read_fault-clause-gave : goal.returns-in-Err-as_read_fault-clause-gave
returns-in-Err-as_read_fault-clause-gave g c =
    let work = c.args.self.now in
    let answers = g.S.FileBytes.answers work.source.now in
    let lengths = lengths_of_sizes work.known.now.lengths.items in
    subst (λ error. IsNoReadFault error × IsGivenRead answers lengths error)
    (sym c.in-Err-as_read_fault.ensures.0) (
      no_read answers lengths c.in-Err.error c.in-Err.ensures.gave c.in-Err-as_read_fault.ensures.1,
      c.in-Err.ensures.gave,
    )

pub returns-clause-stands : goal.returns-clause-stands
returns-clause-stands g c = λ units before each.
    let work = c.args.self.now in
    let told = work.known.now.lengths.items in
    let finds = FindsUnit (g.S.FileBytes.is_steady work.source.now)
    (IsGivenRead (g.S.FileBytes.answers work.source.now) (lengths_of_sizes told)) work.plan.now told in
    if_ok_more c.find_each.result _ _
    (λ sums both. (both.0, each_next finds units c.args.unit.now before sums each.1 both.1))
    (both_ok c.find_each.result _ _ c.find_each.ensures.owing c.find_each.ensures.found)

pub returns-clause-gave : goal.returns-clause-gave
returns-clause-gave g c =
    both_err c.find_each.result _ _ c.find_each.ensures.no_read_fault c.find_each.ensures.gave
