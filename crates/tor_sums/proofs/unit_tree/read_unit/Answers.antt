-- one part after the other
use Rattle.std.proofs.Common.{List, [], ◌++◌, inl, inr, ap, subst, sym, ◌∙◌, arith}
use Rattle.std.proofs.lemmas.Grind.{common_steps}
use Rattle.std.proofs.lemmas.List.{take_all}
use Rattle.std.specs.List.{All}
use Rattle.tor_plan.specs.WithinEntries.{IsInFile}
use Rattle.tor_plan.specs.declared.units.Part.{Part}
use Rattle.tor_v1.specs.Piece.{zeros}
use Rattle.tor_sums.specs.Fault.{PartFailsWithin, first_of, part_fault, wanted_part_fault}
use Rattle.tor_sums.specs.steps.Reads.{HasPart, ReadsParts}
use Rattle.tor_sums.proofs.FirstOf.{first_at, first_next, first_of_none}
use Rattle.tor_sums.proofs.Parts.{one_of_parts}
use Rattle.tor_sums.proofs.UnitParts.{begun_more, parts_more, parts_none, unit_read}
use Rattle.tor_sums.proofs.unit_tree.read_unit.Goals as goal

pub each-init : goal.each-init
each-init g c = record {
  begun = omega (arith, c.requires.fresh.1.begun);
  read = λ before fresh.
      parts_none (g.S.FileBytes.is_steady c.args.source.now) c.args.plan.now before c.args.unit.now.zeros
      c.args.sums.now fresh.taken;
  faultless = λ facts steady have. first_of_none (part_fault facts);
  wanted = λ facts steady within. first_of_none (wanted_part_fault facts);
}

pub read_part-requires-clause-small : goal.read_part-requires-clause-small
read_part-requires-clause-small g c = grind (arith, common_steps)

pub returns-in-Err-clause-fault : goal.returns-in-Err-clause-fault
returns-in-Err-clause-fault g c = λ facts steady have.
    elim (c.in-Err.ensures.fault facts steady
    (one_of_parts (HasPart facts) c.as_slice-parts.result.now c.args.unit.now.parts c.each.part-index _ c.each-test.true
    c.as_slice-parts.ensures have)) [
      | inl memory ↦ inl memory
      | inr fault ↦ inr (ap (first_of (part_fault facts)) (sym c.as_slice-parts.ensures)
          ∙ first_at (part_fault facts) c.as_slice-parts.result.now c.each.part-index _ c.in-Err.error
          c.each-test.true (c.each.invariant.faultless facts steady have) fault)
    ]

pub returns-in-Err-clause-wanted : goal.returns-in-Err-clause-wanted
returns-in-Err-clause-wanted g c = λ facts steady within.
    let parts = c.as_slice-parts.result.now in
    elim (c.in-Err.ensures.wanted facts steady
    (one_of_parts (PartFailsWithin facts) parts c.args.unit.now.parts c.each.part-index _ c.each-test.true
    c.as_slice-parts.ensures within)) [
      | inl memory ↦ inl memory
      | inr fault ↦ inr (ap (first_of (wanted_part_fault facts)) (sym c.as_slice-parts.ensures)
          ∙ first_at (wanted_part_fault facts) parts c.each.part-index _ c.in-Err.error c.each-test.true
          (c.each.invariant.wanted facts steady within) fault)
    ]

pub each-preserved : goal.each-preserved
each-preserved g c =
    let plan = c.args.plan.now in
    let parts = c.as_slice-parts.result.now in
    let i = c.each.part-index in
    let old = c.each.invariant in
    let is = subst (λ (ps : List Part). All (IsInFile plan.lengths) ps) (sym c.as_slice-parts.ensures)
    c.requires.unit.parts in
    let added = c.in-Ok.ensures.added plan (is i _ c.each-test.true) in
    record {
      begun = begun_more parts i _ c.each.sums.begun _ _ c.each-test.true old.begun c.in_ok-feed_zeros.ensures.begun
          added.begun;
      read = λ before fresh.
          parts_more (g.S.FileBytes.is_steady c.args.source.now) plan parts i _ (before ++ zeros c.args.unit.now.zeros)
          c.each.zeros c.each.sums c.feed_zeros.new.self c.read_part.new.sums c.each-test.true (old.read before fresh)
          (c.in_ok-feed_zeros.ensures.taken plan.kind plan.piece_length) added;
      faultless = λ facts steady have.
          first_next (part_fault facts) parts i _ c.each-test.true (old.faultless facts steady have)
          (c.in-Ok.ensures.fault facts steady
          (one_of_parts (HasPart facts) parts c.args.unit.now.parts i _ c.each-test.true c.as_slice-parts.ensures
          have));
      wanted = λ facts steady within.
          first_next (wanted_part_fault facts) parts i _ c.each-test.true (old.wanted facts steady within)
          (c.in-Ok.ensures.wanted facts steady
          (one_of_parts (PartFailsWithin facts) parts c.args.unit.now.parts i _ c.each-test.true
          c.as_slice-parts.ensures within));
    }

pub returns-clause-read : goal.returns-clause-read
returns-clause-read g c = λ before fresh.
    let plan = c.args.plan.now in
    let unit = c.args.unit.now in
    let parts = c.as_slice-parts.result.now in
    let read = subst (λ (ps : List Part).
    ReadsParts (g.S.FileBytes.is_steady c.args.source.now) plan (before ++ zeros unit.zeros) ps c.each.zeros
    c.each.sums)
    (take_all c.each.part-index parts c.each-test.false ∙ c.as_slice-parts.ensures)
    (c.each.invariant.read before fresh) in
    unit_read (g.S.FileBytes.is_steady c.args.source.now) plan unit before c.each.zeros c.each.sums read _
    c.in_ok-tree.tree (c.in_ok-tree.ensures.tree plan.kind plan.piece_length)
    (λ bytes joined taken.
    let fresh = c.in_ok-tree.ensures.next bytes joined taken in
    record {
      taken = c.in_ok-feed_zeros-2.ensures.taken plan.kind plan.piece_length [] joined fresh.taken;
      begun = c.in_ok-feed_zeros-2.ensures.begun ∙ fresh.begun;
    })

pub returns-clause-fault : goal.returns-clause-fault
returns-clause-fault g c = λ facts steady have.
    let parts = c.as_slice-parts.result.now in
    let all = take_all c.each.part-index parts c.each-test.false ∙ c.as_slice-parts.ensures in
    ap (first_of (part_fault facts)) (sym all) ∙ c.each.invariant.faultless facts steady have

pub returns-clause-wanted : goal.returns-clause-wanted
returns-clause-wanted g c = λ facts steady within.
    let parts = c.as_slice-parts.result.now in
    let all = take_all c.each.part-index parts c.each-test.false ∙ c.as_slice-parts.ensures in
    ap (first_of (wanted_part_fault facts)) (sym all) ∙ c.each.invariant.wanted facts steady within
