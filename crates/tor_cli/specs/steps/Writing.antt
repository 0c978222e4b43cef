-- The streams where nothing is read. Only private clauses cite this.
use Rattle.std.specs.Prelude.{ℕ, List, Option}
use Rattle.tor_cli.specs.Streams.{Streams, streams}

-- what the reader has, and what stood in the writer, and stands there
abbrev pub writing : Option (List ℕ) → Option (List ℕ) → Option (List ℕ) → Streams
writing reader writer writer' = streams reader reader writer writer'
