-- For the step after a join alone: what it tells.
use Rattle.std.specs.Prelude.{◌≡◌, ℕ, ◌≤◌}
use Rattle.tor_board.specs.Plays.{Tells}
use Rattle.tor_board.specs.Views.{named}
use Rattle.tor_board.specs.Weights.{only}

-- the seat has at most the whole room, and no unit stands twice among those that it names
abbrev pub merged : Tells
merged st m n after = (st.word ≡ 0) × (after ≡ m) × (m.0.room ≤ 256) × ((u : ℕ) → named (only u) m.0 ≤ 1)
