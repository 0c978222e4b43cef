use Rattle.std.proofs.Common.{◌≡◌, ◌≤◌}
use Rattle.crossbeam_channel.specs.Claims.{view}
use Rattle.tor_lane.specs.Lane.{FeedsLaneOf, put_by}
use Rattle.tor_lane.proofs.feeder.Feeder.end.Given as goal

abbrev pub invariant-marks : goal.invariant-marks
invariant-marks g l =
    FeedsLaneOf l.fn.self l.self × (put_by l.self ≡ put_by l.fn.self) × ((view l.self.pass).ended ≡ l.counter)
    × (l.end ≡ l.fn.self.workers) × (l.counter ≤ l.end)
