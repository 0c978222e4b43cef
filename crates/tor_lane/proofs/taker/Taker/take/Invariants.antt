use Rattle.std.proofs.Common.{◌≡◌, false}
use Rattle.crossbeam_channel.specs.Claims.{IsSeatAt, view}
use Rattle.crossbeam_channel.specs.Ends.{receives_on}
use Rattle.tor_lane.proofs.taker.Taker.take.Given as goal

abbrev pub invariant-tries : goal.invariant-tries
invariant-tries g l =
    (goal.iterator-tries g).can_next l.iterator' × (goal.iterator-tries g).is_finite l.iterator'
    × IsSeatAt (receives_on l.self.from) l.self.pass × (view l.self.pass ≡ view l.fn.self.pass)
    × (l.self.from ≡ l.fn.self.from) × (l.self.stopped ≡ false)
