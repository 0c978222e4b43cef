-- A plan that is refused is told as it is.
use Rattle.std.proofs.Common.{ℕ, List, subst, sym}
use Rattle.std.proofs.lemmas.Result.{err_from_is_err_and}
use Rattle.std.specs.Prelude.{IfOk}
use Rattle.tor_cli.specs.lots.Lots.{IsLotAt}
use Rattle.tor_cli.proofs.LotFaults.{no_plan}
use Rattle.tor_cli.proofs.lots.lot.lot_by_workers.Goals as goal

pub returns-in_err-plan-clause-stopped : goal.returns-in_err-plan-clause-stopped
returns-in_err-plan-clause-stopped g c =
    let p = err_from_is_err_and c.from_residual.result c.from_residual.ensures.1 in
    rw (p.1, p.2) (no_plan c.args.options.now c.args.plan.now c.requires.allowed c.in_err-plan.field-0.0
    c.in_err-plan.ensures.refused)

pub returns-clause-made : goal.returns-clause-made
returns-clause-made g c =
    subst (λ (bytes : List ℕ). IfOk c.lot_of_judged.result (λ lot. IsLotAt c.args.options.now.lot bytes lot.items))
    (sym c.in_ok-plan.ensures.read) c.lot_of_judged.ensures.made
