-- The one spelling of a tree (BEP 3, "bencoding").
use Rattle.std.specs.Prelude.{ℕ, zero, suc, ◌+◌, ℤ, pos, negsuc, List, [], ◌++◌, length, map, codes}
use Rattle.std.specs.Int.Digits.{digits_of}
use Rattle.tor_bencode.specs.Marks.{digit_zero}
use Rattle.tor_bencode.specs.Data.{Data, integer, string, list, dictionary, Items, no_items, item, Pairs, no_pairs}
use Rattle.tor_bencode.specs.Data.{pair}

-- the shortest digits of a number in base ten, however large it is, the highest first
unfoldable pub base_ten : ℕ → List ℕ
base_ten zero = codes "0"
base_ten (suc n) = map (λ digit. digit_zero + digit) (digits_of 10 (suc n))

-- the same with a sign, if the number is negative
abbrev pub signed_base_ten : ℤ → List ℕ
signed_base_ten (pos n) = base_ten n
signed_base_ten (negsuc n) = codes "-" ++ base_ten (suc n)

-- a byte string: its length in base ten, a colon and the bytes
abbrev pub string_spelling : List ℕ → List ℕ
string_spelling bytes = base_ten (length bytes) ++ codes ":" ++ bytes

-- the one spelling of a tree: shortest base ten, keys in the dictionary's order (BEP 3, "bencoding")
abbrev mutual
  pub spelling : Data → List ℕ
  spelling (integer n) = codes "i" ++ signed_base_ten n ++ codes "e"
  spelling (string bytes) = string_spelling bytes
  spelling (list items) = codes "l" ++ items_spelling items ++ codes "e"
  spelling (dictionary pairs) = codes "d" ++ pairs_spelling pairs ++ codes "e"

  pub items_spelling : Items → List ℕ
  items_spelling no_items = []
  items_spelling (item d items) = spelling d ++ items_spelling items

  pub pairs_spelling : Pairs → List ℕ
  pairs_spelling no_pairs = []
  pairs_spelling (pair key value pairs) = string_spelling key ++ spelling value ++ pairs_spelling pairs
