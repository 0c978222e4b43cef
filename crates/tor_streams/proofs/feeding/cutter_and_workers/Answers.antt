-- the workers are those of the lane
use Rattle.std.proofs.Common.{◌∙◌, subst, sym}
use Rattle.tor_lane.specs.declared.feeder.Feeder.{Feeder}
use Rattle.tor_streams.specs.steps.StreamWorkers.{AreWorkers}
use Rattle.tor_streams.proofs.StreamWorkers.{fresh_takers}
use Rattle.tor_streams.proofs.feeding.cutter_and_workers.Goals as goal

pub returns-clause-workers : goal.returns-clause-workers
returns-clause-workers c =
    let chunking = c.args.chunking in
    let workers = c.in_ok-workers.workers in
    let first = c.in_ok-feeder.feeder in
    let of_lane = c.in_ok-feeder.ensures in
    subst (λ (feeder : Feeder). AreWorkers chunking feeder workers.items) (sym c.in_ok-cutter.ensures.feeder)
    (record {
      each = c.in_ok-workers.ensures.workers chunking first
          (fresh_takers first c.in_ok-feeder.takers.items of_lane.takers);
      all = sym workers.ok.0 ∙ c.in_ok-workers.ensures.all ∙ of_lane.count ∙ sym of_lane.feeder.2;
    })
