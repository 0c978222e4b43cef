-- Runs of eight whole pieces. Only private clauses cite this.
use Rattle.std.specs.Prelude.{◌≡◌, ℕ, ◌*◌, ◌%◌, ◌^◌, ◌≤◌}
use Rattle.tor_v1.specs.declared.sums.PieceSums.{PieceSums}

-- pieces of so many bytes are taken in runs
pub record HasRuns (piece_length : ℕ) : Type 0 where
  pub whole : piece_length % 64 ≡ 0
  pub most : piece_length ≤ 2 ^ 24

-- no piece is begun, and of so many bytes eight pieces are taken at once
pub record FitsRun (sums : PieceSums) (left : ℕ) : Type 0 where
  pub none : sums.begun ≡ 0
  pub allowed : HasRuns sums.piece_length
  pub there : 8 * sums.piece_length ≤ left
