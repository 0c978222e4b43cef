-- what was taken of the bytes was fed, and there is room for the rest
use Rattle.std.proofs.Common.{◌≡◌, ℕ, ◌+◌, List, ◌++◌, length}
use Rattle.tor_v1.specs.Feeding.{Feeds}
use Rattle.tor_v1.specs.steps.Room.{HasRoom}
use Rattle.tor_v1.proofs.sums.PieceSums.add.Given as goal

abbrev pub invariant-parts : goal.invariant-parts
invariant-parts l = record {
  fed : (taken : List ℕ) × (taken ++ l.rest ≡ l.initial.rest)
      × Feeds l.initial.self l.self taken;
  room : (later : ℕ) → HasRoom l.initial.self (length l.initial.rest + later) → HasRoom l.self (length l.rest + later);
}

abbrev pub decreases-parts : goal.decreases-parts
decreases-parts l = length l.rest
