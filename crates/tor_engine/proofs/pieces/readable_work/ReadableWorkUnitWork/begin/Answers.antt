-- no unit was found yet
use Rattle.tor_engine.specs.steps.Readable.{FindsUnit}
use Rattle.tor_sums.specs.steps.Given.{IsGivenRead, lengths_of_sizes}
use Rattle.tor_sums.proofs.PaidSums.{if_ok_more}
use Rattle.tor_engine.proofs.Each.{each_none}
use Rattle.tor_engine.proofs.pieces.readable_work.ReadableWorkUnitWork.begin.Goals as goal

pub returns : goal.returns
returns g c =
    let work = c.args.self.now in
    let told = work.known.now.lengths.items in
    if_ok_more c.new.result _ _
    (λ worker owes. (
      owes,
      each_none (FindsUnit (g.S.FileBytes.is_steady work.source.now)
          (IsGivenRead (g.S.FileBytes.answers work.source.now) (lengths_of_sizes told)) work.plan.now told),
    ))
    c.new.ensures.owes
