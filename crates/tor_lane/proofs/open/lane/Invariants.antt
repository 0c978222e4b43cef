use Rattle.std.proofs.Common.{◌≡◌, ◌≤◌, All, [], false, vec_len, vec_capacity}
use Rattle.crossbeam_channel.specs.Claims.{IsSeatAt, view}
use Rattle.crossbeam_channel.specs.Ends.{receives_on, sends_on}
use Rattle.tor_lane.specs.declared.taker.Taker.{Taker}
use Rattle.tor_lane.specs.Views.{first}
use Rattle.tor_lane.proofs.open.lane.Given as goal

abbrev pub invariant-takers : goal.invariant-takers
invariant-takers l =
    IsSeatAt (sends_on l.to) l.pass × (view l.pass ≡ record first { made = l.counter })
    × (vec_len l.takers ≡ l.counter) × (l.counter ≤ l.workers) × (l.workers ≤ vec_capacity l.takers)
    × All (λ (t : Taker). (receives_on t.from ≡ sends_on l.to) × ((view t.pass).taken ≡ []) × (t.stopped ≡ false))
    l.takers.items
