-- Torrents with another tracker, or with none (BEP 3, "metainfo files"; BEP 12).
use Rattle.std.specs.Prelude.{◌≡◌, ℕ, List, Option, None, Some, codes, if◌then◌else◌}
use Rattle.std.specs.Str.{bytes_eq}
use Rattle.tor_bencode.specs.Data.{Data, integer, string, list, dictionary, Pairs, no_pairs, pair}
use Rattle.tor_bencode.specs.Spelling.{spelling}
use Rattle.tor_spec.specs.Dictionary.{put}
use Rattle.tor_spec.specs.valid.Conditions.{IsTorrentOf}

-- the pairs but for those with this key
abbrev pub without : List ℕ → Pairs → Pairs
without key no_pairs = no_pairs
without key (pair k value pairs) = if bytes_eq k key then without key pairs else pair k value (without key pairs)

-- pairs whose `announce` is this text; without a text they have none
abbrev pub announced : Option (List ℕ) → Pairs → Pairs
announced None pairs = without (codes "announce") pairs
announced (Some tracker) pairs = put (codes "announce") (string tracker) pairs

-- a root with this tracker alone, or with none. `announce` is its text or is not there, `announce-list` is not there,
-- and every other key has the value that it had (BEP 3, "metainfo files"; BEP 12; profile)
abbrev pub tracker_edited : Data → Option (List ℕ) → Data
tracker_edited (integer n) tracker = integer n
tracker_edited (string bytes) tracker = string bytes
tracker_edited (list items) tracker = list items
tracker_edited (dictionary pairs) tracker = dictionary (without (codes "announce-list") (announced tracker pairs))

-- the bytes are a torrent, and the others spell it with this tracker alone, or with none (profile)
abbrev pub IsWithTracker : List ℕ → Option (List ℕ) → List ℕ → Type 0
IsWithTracker bytes tracker edited =
    (root : Data) × IsTorrentOf root bytes × (edited ≡ spelling (tracker_edited root tracker))
