-- What goes into a writer.
use Rattle.std.specs.Prelude.{ℕ, ◌<◌, List, length, take, Option}
use Rattle.std.specs.Io.KnownBytes.{Appends}

-- so many bytes of a torrent, and nothing else, were written
abbrev pub IsFront : Option (List ℕ) → Option (List ℕ) → ℕ → List ℕ → Type 0
IsFront writer writer' written torrent = (written < length torrent) × Appends writer writer' (take written torrent)
