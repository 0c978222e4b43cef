-- Pairs that are put one behind the other. Only private clauses cite these.
use Rattle.std.specs.Prelude.{ℕ, List}
use Rattle.tor_bencode.specs.Data.{Data, Pairs, no_pairs, pair}

-- these, and one more behind them
abbrev pub with_pair : Pairs → List ℕ → Data → Pairs
with_pair no_pairs key value = pair key value no_pairs
with_pair (pair first one pairs) key value = pair first one (with_pair pairs key value)
