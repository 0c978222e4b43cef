-- what the feeder knows of the takers so far, and those that are left
use Rattle.std.proofs.Common.{◌≡◌, ◌++◌, All, length}
use Rattle.std.specs.Vec.Iter.{into_iter_items, into_iter_len}
use Rattle.crossbeam_channel.specs.Claims.{IsSeatAt, view}
use Rattle.crossbeam_channel.specs.Ends.{sends_on}
use Rattle.tor_lane.specs.declared.taker.Taker.{Taker}
use Rattle.tor_lane.specs.Lane.{IsAtMark, IsTakerOf}
use Rattle.tor_lane.proofs.Absorbed.{knowing}
use Rattle.tor_lane.proofs.feeder.Feeder.settle.Given as goal

abbrev pub invariant-takers : goal.invariant-takers
invariant-takers l =
    (l.yielded ++ into_iter_items l.taker-iterator ≡ l.fn.takers.items)
    × (into_iter_len l.taker-iterator ≡ length (into_iter_items l.taker-iterator))
    × All (λ (t : Taker). IsTakerOf l.fn.self t × IsAtMark t) (into_iter_items l.taker-iterator)
    × (l.to ≡ l.fn.self.to)
    × IsSeatAt (sends_on l.to) l.pass
    × (view l.pass ≡ knowing (view l.fn.self.pass) l.yielded)
