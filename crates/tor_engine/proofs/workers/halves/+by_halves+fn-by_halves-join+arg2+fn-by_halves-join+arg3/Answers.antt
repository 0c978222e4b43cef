-- what the halves answer is what the whole does
use Rattle.tor_engine.proofs.workers.halves.+by_halves+fn-by_halves-join+arg2+fn-by_halves-join+arg3.Goals as goal

pub join-requires : goal.join-requires
join-requires g c = λ here. (
  here.args.share,
  here.in-Ok.first,
  here.in-Ok.second,
  here.in-Ok.ensures.halves.2,
  here.join-one.ensures.first,
  here.join-one.ensures.second,
)

pub returns-in-Ok : goal.returns-in-Ok
returns-in-Ok g c = λ here.
    here.join.ensures here.args.share here.in-Ok.first here.in-Ok.second here.in-Ok.ensures.halves.2
    here.join-one.ensures.first here.join-one.ensures.second
