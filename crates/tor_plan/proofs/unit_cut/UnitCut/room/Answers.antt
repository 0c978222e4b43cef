-- with a full unit, and without
use Rattle.tor_plan.proofs.Names.{◌++◌, ◌∷◌, [], ap, ◌∙◌, sym, subst, UnitCut, HasCut}
use Rattle.tor_plan.proofs.Cut.{cut_full}
use Rattle.tor_plan.proofs.unit_cut.UnitCut.room.Goals.{then-self-eq0+in_ok-push, else-self-eq0}
use Rattle.tor_plan.proofs.unit_cut.UnitCut.room.Goals as goal

pub returns-clause-cut : goal.returns-clause-cut
returns-clause-cut c = λ unit x cut.
    let old = c.args.self.now in
    elim c.if-self-eq0.branch [
      | then-self-eq0+in_ok-push w ↦
          let is = w.self-is in
          cut_full old unit x cut c.if-self-eq0.self (ap (λ s. s.size) is)
          (ap (λ s. s.units.items) is ∙ w.in_ok-push.ensures.items
          ∙ ap (λ u. old.units.items ++ u ∷ []) w.replace-unit.ensures.value)
          (ap (λ s. s.begun) is ∙ w.replace-unit.ensures.after ∙ w.empty.ensures)
          w.if-self-eq0.true (ap (λ s. s.room) is ∙ sym (ap (λ s. s.size) is))
      | else-self-eq0 w ↦ subst (λ (s : UnitCut). HasCut s unit x) (sym w.self-is) cut
    ]
