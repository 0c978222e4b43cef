-- the units from the lot's first on, and before the first after it
use Rattle.std.proofs.Common.{◌∙◌, ℕ, ap₂}
use Rattle.tor_engine.specs.Rows.{units_between}
use Rattle.tor_parts.proofs.own_lot.units_of_lot.Goals as goal

pub returns-clause-units : goal.returns-clause-units
returns-clause-units c =
    c.units_between.ensures.units
    ∙ ap₂ (λ (from : ℕ) (to : ℕ). units_between from to c.args.plan.now.units) c.deal-from.ensures.first
    c.deal-from.ensures.after
