-- That keys rise is a fact, which has one proof at most: a struct may keep it.
use Rattle.std.specs.Prelude.{ℕ, List, [], ◌∷◌}
use Rattle.std.specs.Ordering.{Ordering-set}
use Rattle.tor_bencode.specs.Data.{Data, integer, string, list, dictionary, Items, no_items, item, Pairs, no_pairs}
use Rattle.tor_bencode.specs.Data.{pair, keys_of}
use Rattle.tor_bencode.specs.Lawful.{AreRising, HasRisingKeys, ItemsHaveRisingKeys, PairsHaveRisingKeys}
use mathlib.Core.HLevel.{×_prop, Unit-prop}

pub AreRising-prop : (keys : List (List ℕ)) → IsProp (AreRising keys)
AreRising-prop [] = Unit-prop
AreRising-prop (key ∷ []) = Unit-prop
AreRising-prop (key ∷ next ∷ keys) = ×_prop (Ordering-set _ _) (AreRising-prop (next ∷ keys))

mutual
  pub HasRisingKeys-prop : (d : Data) → IsProp (HasRisingKeys d)
  HasRisingKeys-prop (integer n) = Unit-prop
  HasRisingKeys-prop (string bytes) = Unit-prop
  HasRisingKeys-prop (list items) = ItemsHaveRisingKeys-prop items
  HasRisingKeys-prop (dictionary pairs) = ×_prop (AreRising-prop (keys_of pairs)) (PairsHaveRisingKeys-prop pairs)

  pub ItemsHaveRisingKeys-prop : (items : Items) → IsProp (ItemsHaveRisingKeys items)
  ItemsHaveRisingKeys-prop no_items = Unit-prop
  ItemsHaveRisingKeys-prop (item d items) = ×_prop (HasRisingKeys-prop d) (ItemsHaveRisingKeys-prop items)

  pub PairsHaveRisingKeys-prop : (pairs : Pairs) → IsProp (PairsHaveRisingKeys pairs)
  PairsHaveRisingKeys-prop no_pairs = Unit-prop
  PairsHaveRisingKeys-prop (pair key value pairs) =
      ×_prop (HasRisingKeys-prop value) (PairsHaveRisingKeys-prop pairs)

-- for `by { Prim.hlevel rising_props }` after a field of a struct
pub ruleset rising_props = (HasRisingKeys-prop)
