-- some bytes more
use Rattle.tor_plan.proofs.Names.{◌+◌, ◌-◌, ◌∙◌, arith, inl, inr, subst, cases_lt, HasCut}
use Rattle.tor_plan.proofs.Cut.{adds_some}
use Rattle.tor_plan.proofs.unit_cut.UnitCut.add.Goals as goal

pub stretch-preserved : goal.stretch-preserved
stretch-preserved c =
    let done = c.stretch.done in
    let n = c.min-count.result in
    let old = c.stretch.invariant in
    let less = c.stretch-test.true in
    let added = c.in_ok-add_some.ensures in
    record {
      within = omega (arith, c.min-count.ensures, less);
      size = added.size ∙ c.in_ok-room.ensures.size ∙ old.size;
      begins = elim (cases_lt c.room.new.self.room (c.args.length - done)) [
        | inl more ↦ inr (inr (omega (arith, c.min-count.ensures, added.room, c.in_ok-room.ensures.room, more)))
        | inr le ↦ inr (inl (omega (arith, c.min-count.ensures, c.in_ok-room.ensures.room, le, less)))
      ];
      cut = λ unit at cut is. subst (HasCut c.add_some.new.self unit)
          (omega arith) (adds_some c.room.new.self unit at c.args.length done n c.args.stretch
          (c.in_ok-room.ensures.cut unit (at + done) (old.cut unit at cut is)) is (elim old.begins [
            | inl first ↦ inl first
            | inr (inl end) ↦ absurd (omega (arith, end, less))
            | inr (inr full) ↦ inr (c.in_ok-room.ensures.fresh full)
          ]) (omega (arith, c.min-count.ensures, c.in_ok-room.ensures.room, less))
          (omega (arith, c.min-count.ensures, less)) c.add_some.new.self added.size added.units added.begun added.room);
    }
