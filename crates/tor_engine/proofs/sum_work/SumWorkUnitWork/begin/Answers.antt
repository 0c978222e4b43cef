use Rattle.std.proofs.Common.{[]}
use Rattle.tor_sums.specs.steps.Run.{OwesUnit}
use Rattle.tor_sums.proofs.PaidSums.{if_ok_more, owe_none}
use Rattle.tor_engine.proofs.sum_work.SumWorkUnitWork.begin.Goals as goal

pub returns : goal.returns
returns g c =
    if_ok_more c.new.result _ _
    (λ worker owes. (
      [],
      owes,
      owe_none (OwesUnit (g.S.FileBytes.is_steady c.args.self.now.source.now)
          c.args.self.now.plan.now),
    )) c.new.ensures.owes
