use Rattle.std.proofs.Common.{subst}
use Rattle.tor_engine.specs.steps.Taken.{HasBegun}
use Rattle.tor_engine.proofs.workers.taking.worker_of.Goals as goal

pub returns-in-Some : goal.returns-in-Some
returns-in-Some g c = λ units sums begun.
    subst (HasBegun (g.W.UnitWork.stands c.args.work.now) (g.W.UnitWork.number_in c.args.work.now) units sums)
    c.in-Some.is begun
