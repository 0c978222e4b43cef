-- two workers are as one
use Rattle.tor_sums.specs.steps.Each.{SumUpEach}
use Rattle.tor_engine.proofs.Each.{each_append}
use Rattle.tor_engine.proofs.UnitShares.{joined_answers}
use Rattle.tor_engine.proofs.workers.turn.UnitShareDivisible.join.Goals as goal

pub returns : goal.returns
returns g c = λ whole first second halves one other.
    let w = g.W.UnitWork in
    joined_answers (λ work units sums. SumUpEach (w.sums_up work) units sums) w.is_steady w.fault w.gave whole.work.now
    first.work.now second.work.now whole.first first.first second.first whole.units.now first.units.now
    second.units.now halves c.args.one c.args.other one other (λ work. each_append (w.sums_up work))
    c.both_joined.result c.both_joined.ensures (g.met.W.UnitWork.may_refuse whole.work.now)
