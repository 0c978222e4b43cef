-- A content that is fed in parts.
use Rattle.std.specs.Prelude.{ℕ, List}

-- the length of a piece, and the bytes fed so far
pub record Feeding : Type 0 where
  pub piece_length : ℕ
  pub bytes : List ℕ
