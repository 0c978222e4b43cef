-- The streams that the program is given, before and after it ran.
use Rattle.std.specs.Prelude.{◌≡◌, ℕ, List, Option}

-- what the reader had, and has, and what stands in the writer, before and after
pub record Streams : Type 0 where
  pub reader : Option (List ℕ)
  pub reader' : Option (List ℕ)
  pub writer : Option (List ℕ)
  pub writer' : Option (List ℕ)

-- what a reader had, and has, and what stood in a writer, and stands there
abbrev pub streams : Option (List ℕ) → Option (List ℕ) → Option (List ℕ) → Option (List ℕ) → Streams
streams reader reader' writer writer' = record {
  reader = reader;
  reader' = reader';
  writer = writer;
  writer' = writer';
}

-- nothing was read, and nothing was written
abbrev pub IsUntouched : Streams → Type 0
IsUntouched s = (s.reader' ≡ s.reader) × (s.writer' ≡ s.writer)
