-- Pairs cut at a key, and put together again.
use Rattle.std.specs.Prelude.{ℕ, List, Option, None, Some, codes}
use Rattle.std.specs.Cmp.Lexicographic.{slice_cmp}
use Rattle.std.specs.Ordering.{nat_cmp, match_ordering}
use Rattle.tor_bencode.specs.Data.{string, Pairs, no_pairs, pair}

-- the first pairs, whose keys come before this one
abbrev pub before : List ℕ → Pairs → Pairs
before key no_pairs = no_pairs
before key (pair k value pairs) =
    match_ordering (slice_cmp nat_cmp key k) no_pairs no_pairs (pair k value (before key pairs))

-- what follows them, but for a pair with the key
abbrev pub after : List ℕ → Pairs → Pairs
after key no_pairs = no_pairs
after key (pair k value pairs) =
    match_ordering (slice_cmp nat_cmp key k) (pair k value pairs) pairs (after key pairs)

-- some pairs, then others
abbrev pub joined : Pairs → Pairs → Pairs
joined no_pairs later = later
joined (pair k value pairs) later = pair k value (joined pairs later)

-- the pair that names the tracker, if there is one
abbrev pub tracker_pair : Option (List ℕ) → Pairs
tracker_pair None = no_pairs
tracker_pair (Some tracker) = pair (codes "announce") (string tracker) no_pairs
