-- The tree that an `Item` stands for.
use Rattle.std.specs.Prelude.{ℕ, List, [], ◌∷◌, Vec, map}
use Rattle.std.specs.declared.alloc.Global.{Global}
use Rattle.tor_bencode.specs.Data.{Data, integer, string, list, dictionary, Items, no_items, item, Pairs, no_pairs}
use Rattle.tor_bencode.specs.Data.{pair}
use Rattle.tor_bencode.specs.declared.item.Item.{Item, fold-Item}
use Rattle.tor_bencode.specs.declared.item.Item.TheOpen.{Item-F}

abbrev pub items_of : List Data → Items
items_of [] = no_items
items_of (d ∷ ds) = item d (items_of ds)

abbrev pub pairs_of : List (Vec ℕ Global × Data) → Pairs
pairs_of [] = no_pairs
pairs_of (p ∷ ps) = pair p.0.items p.1 (pairs_of ps)

-- one level, with each item inside already seen as its tree
abbrev pub view_step : Item-F Data → Data
view_step (Item-F.Int n) = integer n
view_step (Item-F.Bytes bytes) = string bytes.items
view_step (Item-F.List items) = list (items_of items.items)
view_step (Item-F.Dict pairs) = dictionary (pairs_of pairs.items)

-- the tree of an `Item` (BEP 3, "bencoding")
abbrev pub view : Item → Data
view = fold-Item Data view_step

abbrev pub items_view : List Item → Items
items_view items = items_of (map view items)

abbrev pub pairs_view : List (Vec ℕ Global × Item) → Pairs
pairs_view pairs = pairs_of (map (λ p. (p.0, view p.1)) pairs)
