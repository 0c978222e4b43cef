-- Room for the hashes of pieces. Only private clauses cite this.
use Rattle.std.specs.Prelude.{◌≡◌}
use Rattle.tor_v1.specs.declared.sums.PieceSums.{PieceSums}
pub use Rattle.tor_v1.specs.Feeding.{HasRoom}

-- the same but for room
pub record IsSameButRoom (old new : PieceSums) : Type 0 where
  pub piece_length : new.piece_length ≡ old.piece_length
  pub begun : new.begun ≡ old.begun
  pub hasher : new.hasher ≡ old.hasher
  pub items : new.sums.items ≡ old.sums.items
