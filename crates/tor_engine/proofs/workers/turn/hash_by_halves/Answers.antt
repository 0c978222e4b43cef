-- the fault without the number of its unit
use Rattle.std.proofs.Common.{option_map, ap, subst, sym, ◌∙◌}
use Rattle.tor_sums.specs.Fault.{IsFault, first_of}
use Rattle.tor_engine.proofs.Failing.{fault_of_failure, fault_of_stop}
use Rattle.tor_engine.proofs.workers.turn.hash_by_halves.Goals as goal

pub returns-in-Ok-clause-fault : goal.returns-in-Ok-clause-fault
returns-in-Ok-clause-fault g c = λ facts steady.
    sym (fault_of_failure (g.W.UnitWork.fault c.args.work.now facts) 0 c.args.units.now)
    ∙ ap (option_map (λ failure. failure.error)) (c.in-Ok.ensures.steady facts steady)

pub returns-in-Err-clause-fault : goal.returns-in-Err-clause-fault
returns-in-Err-clause-fault g c = λ facts steady.
    let fault = g.W.UnitWork.fault c.args.work.now facts in
    subst (IsFault (first_of fault c.args.units.now)) (sym c.into_error.ensures)
    (fault_of_stop fault 0 c.args.units.now c.in-Err.failure (c.in-Err.ensures.steady facts steady))
