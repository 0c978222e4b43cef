-- The tree that an `ItemRef` stands for.
use Rattle.std.specs.Borrow.{Bor}
use Rattle.std.specs.Prelude.{ℕ, List, [], ◌∷◌, map}
use Rattle.tor_bencode.specs.Data.{Data, integer, string, list, dictionary, Items, Pairs, no_pairs, pair}
use Rattle.tor_bencode.specs.View.{items_of}
use Rattle.tor_bencode.specs.declared.item_ref.ItemRef.{ItemRef, fold-ItemRef}
use Rattle.tor_bencode.specs.declared.item_ref.ItemRef.TheOpen.{ItemRef-F}

abbrev pub pairs_of : List (Bor (List ℕ) × Data) → Pairs
pairs_of [] = no_pairs
pairs_of (p ∷ ps) = pair p.0.now p.1 (pairs_of ps)

-- one level, with each item inside already seen as its tree
abbrev pub view_step : ItemRef-F Data → Data
view_step (ItemRef-F.Int n) = integer n
view_step (ItemRef-F.Bytes bytes) = string bytes.now
view_step (ItemRef-F.List items) = list (items_of items.items)
view_step (ItemRef-F.Dict pairs) = dictionary (pairs_of pairs.items)

-- the tree of an `ItemRef` (BEP 3, "bencoding")
abbrev pub view : ItemRef → Data
view = fold-ItemRef Data view_step

abbrev pub items_view : List ItemRef → Items
items_view items = items_of (map view items)

abbrev pub pairs_view : List (Bor (List ℕ) × ItemRef) → Pairs
pairs_view pairs = pairs_of (map (λ p. (p.0, view p.1)) pairs)
