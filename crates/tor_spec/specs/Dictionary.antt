-- Dictionaries made key by key.
use Rattle.std.specs.Prelude.{ℕ, Bool, List, [], ◌∷◌, Option, None, Some, if◌then◌else◌}
use Rattle.std.specs.Ordering.{nat_cmp, match_ordering}
use Rattle.std.specs.Cmp.Lexicographic.{slice_cmp}
use Rattle.tor_bencode.specs.Data.{Data, Pairs, no_pairs, pair}

-- a value where the key is to be there
abbrev pub when : Bool → Data → Option Data
when there value = if there then Some value else None

-- the keys that have a value, in the order of the list
abbrev pub present : List (List ℕ × Option Data) → Pairs
present [] = no_pairs
present ((key, None) ∷ fields) = present fields
present ((key, Some value) ∷ fields) = pair key value (present fields)

-- pairs whose keys rise, with one more where its key belongs; a key that is there gets this value
abbrev pub put : List ℕ → Data → Pairs → Pairs
put key value no_pairs = pair key value no_pairs
put key value (pair k v pairs) =
    match_ordering (slice_cmp nat_cmp key k)
    (pair key value (pair k v pairs)) (pair key value pairs) (pair k v (put key value pairs))
