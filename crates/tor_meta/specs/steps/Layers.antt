-- Layers as pairs of a root and joined hashes. Only private clauses cite these.
use Rattle.std.specs.Prelude.{ℕ, List, [], ◌∷◌, Vec}
use Rattle.std.specs.declared.alloc.Global.{Global}
use Rattle.tor_bencode.specs.Data.{string, Pairs, no_pairs, pair}

abbrev pub pairs_of_map : List (List ℕ × Vec ℕ Global) → Pairs
pairs_of_map [] = no_pairs
pairs_of_map (entry ∷ entries) = pair entry.0 (string entry.1.items) (pairs_of_map entries)
