-- The value of a key, and the keys.
use Rattle.std.specs.Prelude.{ℕ, List, [], Option, None, Some, if◌then◌else◌}
use Rattle.std.specs.Str.{bytes_eq}
use Rattle.tor_bencode.specs.Data.{Data, integer, string, list, dictionary, Pairs, no_pairs, pair, keys_of}

-- the value of the first pair with this key
abbrev pub value_in : List ℕ → Pairs → Option Data
value_in key no_pairs = None
value_in key (pair k value pairs) = if bytes_eq k key then Some value else value_in key pairs

-- the value of the first pair with this key. What is no dictionary has no keys (profile)
abbrev pub value_of : List ℕ → Data → Option Data
value_of key (integer n) = None
value_of key (string bytes) = None
value_of key (list items) = None
value_of key (dictionary pairs) = value_in key pairs

-- the keys of a dictionary in its order. What is no dictionary has none (profile)
abbrev pub keys_in : Data → List (List ℕ)
keys_in (integer n) = []
keys_in (string bytes) = []
keys_in (list items) = []
keys_in (dictionary pairs) = keys_of pairs
