use Rattle.std.proofs.Common.{◌≡◌}
use Rattle.crossbeam_channel.specs.Claims.{IsSeatAt, view}
use Rattle.crossbeam_channel.specs.Ends.{sends_on}
use Rattle.tor_lane.proofs.feeder.Feeder.send.Given as goal

abbrev pub invariant-tries : goal.invariant-tries
invariant-tries g l =
    (goal.iterator-tries g).can_next l.iterator' × (goal.iterator-tries g).is_finite l.iterator'
    × IsSeatAt (sends_on l.self.to) l.self.pass × (view l.self.pass ≡ view l.fn.self.pass)
    × (l.self.to ≡ l.fn.self.to) × (l.self.workers ≡ l.fn.self.workers) × (l.message ≡ l.fn.message)
