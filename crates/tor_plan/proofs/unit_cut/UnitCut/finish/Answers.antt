-- with a last unit that is begun, and without
use Rattle.tor_plan.proofs.Names.{arith, ap, ◌∙◌}
use Rattle.tor_plan.proofs.Cut.{ends_full, ends_short}
use Rattle.tor_plan.proofs.unit_cut.UnitCut.finish.Goals.{then-room-size+in_ok-push, else-room-size}
use Rattle.tor_plan.proofs.unit_cut.UnitCut.finish.Goals as goal

pub returns : goal.returns
returns c = λ unit cut.
    let old = c.args.self in
    elim c.if-room-size.branch [
      | then-room-size+in_ok-push w ↦ ap (λ v. v.items) w.units-is ∙ w.in_ok-push.ensures.items
          ∙ ends_short old unit cut w.if-room-size.true
      | else-room-size w ↦ ap (λ v. v.items) w.units-is
          ∙ ends_full old unit cut (omega (arith, old.filled, w.if-room-size.false))
    ]
