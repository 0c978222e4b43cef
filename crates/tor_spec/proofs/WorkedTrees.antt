-- Parts of worked torrents, written as trees.
use Rattle.tor_spec.proofs.Names.{ℕ, pos, List, [], ◌∷◌, map, codes, replicate, Data, integer, string, list, dictionary}
use Rattle.tor_spec.proofs.Names.{Pairs, no_pairs, pair, items_of}

abbrev pub pairs_from : List (List ℕ × Data) → Pairs
pairs_from [] = no_pairs
pairs_from (p ∷ ps) = pair p.0 p.1 (pairs_from ps)

abbrev pub dict : List (List ℕ × Data) → Data
dict pairs = dictionary (pairs_from pairs)

abbrev pub number : ℕ → Data
number n = integer (pos n)

abbrev pub items : List Data → Data
items values = list (items_of values)

-- n bytes
abbrev pub bytes : ℕ → Data
bytes n = string (replicate n 7)

abbrev pub path : List (List ℕ) → List ℕ × Data
path names = (codes "path", items (map string names))

abbrev pub size : ℕ → List ℕ × Data
size n = (codes "length", number n)

abbrev pub attr : List ℕ → List ℕ × Data
attr letters = (codes "attr", string letters)

abbrev pub file : ℕ → List ℕ → Data
file n name = dict (size n ∷ path (name ∷ []) ∷ [])

abbrev pub padding : ℕ → Data
padding n = dict (attr (codes "p") ∷ size n ∷ [])

-- the files a of two bytes and b of one
abbrev pub two : List Data
two = file 2 (codes "a") ∷ file 1 (codes "b") ∷ []
