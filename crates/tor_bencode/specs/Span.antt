-- Where the value of a key is spelled.
use Rattle.std.specs.Prelude.{◌≡◌, ℕ, ◌+◌, ◌-◌, ◌≤◌, List, length, take, drop, Option, None, Some, if◌then◌else◌}
use Rattle.std.specs.Str.{bytes_eq}
use Rattle.tor_bencode.specs.Data.{Data, integer, string, list, dictionary, Pairs, no_pairs, pair}
use Rattle.tor_bencode.specs.Lawful.{IsLawful}
use Rattle.tor_bencode.specs.Spelling.{spelling, string_spelling}

-- start and end of the spelling of the first value with this key, if the pairs are spelled from `at` on
abbrev pub span_in : ℕ → List ℕ → Pairs → Option (ℕ × ℕ)
span_in at key no_pairs = None
span_in at key (pair k value pairs) =
    let start = at + length (string_spelling k) in
    let end = start + length (spelling value) in
    if bytes_eq k key then Some (start, end) else span_in end key pairs

-- where the value of this key is spelled. It is start and end in the spelling of the tree, which begins at 0; the pairs
-- come after a `d` (profile)
abbrev pub span_of : List ℕ → Data → Option (ℕ × ℕ)
span_of key (integer n) = None
span_of key (string bytes) = None
span_of key (list items) = None
span_of key (dictionary pairs) = span_in 1 key pairs

-- the bytes from start to end spell the value
pub record IsSpelledAt (value : Data) (bytes : List ℕ) (start end : ℕ) : Type 0 where
  pub ordered : start ≤ end
  pub within : end ≤ length bytes
  pub spelled : take (end - start) (drop start bytes) ≡ spelling value

-- the bytes spell a lawful tree
abbrev pub IsTree : List ℕ → Type 0
IsTree bytes = (d : Data) × IsLawful d × (bytes ≡ spelling d)
