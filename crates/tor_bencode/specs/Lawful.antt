-- Which trees may stand in a torrent: the keys of every dictionary strictly rise as raw bytes (BEP 3,
-- "bencoding"), and in this profile integers are those of 64 bits and at most 100 lists and dictionaries are open
-- at once.
use Rattle.std.specs.Prelude.{◌≡◌, ◌≤◌, ℕ, suc, max, List, [], ◌∷◌}
use Rattle.std.specs.Ordering.{nat_cmp}
use Rattle.std.specs.Cmp.Lexicographic.{slice_cmp}
use Rattle.std.specs.declared.cmp.Ordering.TheVariants.{Less}
use Rattle.std.specs.Prelude.{FitsSigned}
use Rattle.std.specs.Int.{w64}
use Rattle.tor_bencode.specs.Data.{Data, integer, string, list, dictionary, Items, no_items, item, Pairs, no_pairs}
use Rattle.tor_bencode.specs.Data.{pair, keys_of}
use Rattle.tor_bencode.specs.declared.TheConstants.{MAX_NESTING}

-- each key comes before the next one; a key that begins another comes first
abbrev pub AreRising : List (List ℕ) → Type 0
AreRising [] = Unit {0}
AreRising (key ∷ []) = Unit {0}
AreRising (key ∷ next ∷ keys) = (slice_cmp nat_cmp key next ≡ Less) × AreRising (next ∷ keys)

abbrev mutual
  pub HasRisingKeys : Data → Type 0
  HasRisingKeys (integer n) = Unit {0}
  HasRisingKeys (string bytes) = Unit {0}
  HasRisingKeys (list items) = ItemsHaveRisingKeys items
  HasRisingKeys (dictionary pairs) = AreRising (keys_of pairs) × PairsHaveRisingKeys pairs

  pub ItemsHaveRisingKeys : Items → Type 0
  ItemsHaveRisingKeys no_items = Unit {0}
  ItemsHaveRisingKeys (item d items) = HasRisingKeys d × ItemsHaveRisingKeys items

  pub PairsHaveRisingKeys : Pairs → Type 0
  PairsHaveRisingKeys no_pairs = Unit {0}
  PairsHaveRisingKeys (pair key value pairs) = HasRisingKeys value × PairsHaveRisingKeys pairs

-- every integer is from -2^63 to 2^63 - 1
abbrev mutual
  pub HasSmallIntegers : Data → Type 0
  HasSmallIntegers (integer n) = FitsSigned w64 n
  HasSmallIntegers (string bytes) = Unit {0}
  HasSmallIntegers (list items) = ItemsHaveSmallIntegers items
  HasSmallIntegers (dictionary pairs) = PairsHaveSmallIntegers pairs

  pub ItemsHaveSmallIntegers : Items → Type 0
  ItemsHaveSmallIntegers no_items = Unit {0}
  ItemsHaveSmallIntegers (item d items) = HasSmallIntegers d × ItemsHaveSmallIntegers items

  pub PairsHaveSmallIntegers : Pairs → Type 0
  PairsHaveSmallIntegers no_pairs = Unit {0}
  PairsHaveSmallIntegers (pair key value pairs) = HasSmallIntegers value × PairsHaveSmallIntegers pairs

-- how many lists and dictionaries are open at once, at the most
abbrev mutual
  pub depth : Data → ℕ
  depth (integer n) = 0
  depth (string bytes) = 0
  depth (list items) = suc (items_depth items)
  depth (dictionary pairs) = suc (pairs_depth pairs)

  pub items_depth : Items → ℕ
  items_depth no_items = 0
  items_depth (item d items) = max (depth d) (items_depth items)

  pub pairs_depth : Pairs → ℕ
  pairs_depth no_pairs = 0
  pairs_depth (pair key value pairs) = max (depth value) (pairs_depth pairs)

-- at most so many lists and dictionaries are open at once
pub record IsLawfulWithin (room : ℕ) (d : Data) : Type 0 where
  pub keys : HasRisingKeys d
  pub integers : HasSmallIntegers d
  pub nesting : depth d ≤ room

pub record ItemsAreLawfulWithin (room : ℕ) (items : Items) : Type 0 where
  pub keys : ItemsHaveRisingKeys items
  pub integers : ItemsHaveSmallIntegers items
  pub nesting : items_depth items ≤ room

-- of the values alone
pub record PairsAreLawfulWithin (room : ℕ) (pairs : Pairs) : Type 0 where
  pub keys : PairsHaveRisingKeys pairs
  pub integers : PairsHaveSmallIntegers pairs
  pub nesting : pairs_depth pairs ≤ room

-- keys strictly rise as raw bytes, integers have 64 bits, at most 100 lists and dictionaries are open at once (BEP 3,
-- "bencoding"; profile)
abbrev pub IsLawful : Data → Type 0
IsLawful = IsLawfulWithin MAX_NESTING
