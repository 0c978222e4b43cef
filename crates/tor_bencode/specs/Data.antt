-- A bencode tree (BEP 3, "bencoding") as contracts see it, apart from where its parts lie in memory.
use Rattle.std.specs.Prelude.{ℕ, ℤ, List, [], ◌∷◌}

-- a bencode tree apart from memory. Contracts see it so, wherever its parts lie (BEP 3, "bencoding")
mutual
  pub data Data : Type 0 where
    integer : ℤ → Data
    string : List ℕ → Data
    list : Items → Data
    dictionary : Pairs → Data

  pub data Items : Type 0 where
    no_items : Items
    item : Data → Items → Items

  -- pairs of a key and a value, in the order in which they are spelled
  pub data Pairs : Type 0 where
    no_pairs : Pairs
    pair : List ℕ → Data → Pairs → Pairs

abbrev pub keys_of : Pairs → List (List ℕ)
keys_of no_pairs = []
keys_of (pair key value pairs) = key ∷ keys_of pairs
