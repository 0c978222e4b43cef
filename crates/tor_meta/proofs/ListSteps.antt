-- One more item of a list that is made item by item.
use Rattle.std.proofs.Common.{◌≡◌, ◌∙◌, ◌+◌, ◌<◌, ◌++◌, ◌∷◌, [], ℕ, Global, List, Vec, ap₂, get_or, length}
use Rattle.std.proofs.Common.{map, rules, sym, take}
use Rattle.std.proofs.lemmas.List.{map-append, map_more}
use Rattle.tor_bencode.specs.Data.{list}
use Rattle.tor_bencode.specs.View.{items_view, view}
use Rattle.tor_bencode.specs.declared.item.Item.{Item, List as ListItem, the_lemmas}

-- of items that are made of those of a list
pub made_more : {X Y : Type 0} (f : X → Y) (xs : List X) (i : ℕ) (d : X) (old : List Y) (y : Y)
    → i < length xs → old ≡ map f (take i xs) → y ≡ f (get_or xs i d)
    → old ++ y ∷ [] ≡ map f (take (i + 1) xs)
made_more f xs i d old y within before same =
    ap₂ (λ ys z. ys ++ z ∷ []) before same ∙ sym (map_more f xs i d within)

-- of items that are seen as what is made of those of a list
pub seen_more : {X A Y : Type 0} (see : A → Y) (f : X → Y) (xs : List X) (i : ℕ) (d : X) (old : List A) (a : A)
    → i < length xs → map see old ≡ map f (take i xs) → see a ≡ f (get_or xs i d)
    → map see (old ++ a ∷ []) ≡ map f (take (i + 1) xs)
seen_more see f xs i d old a within before same =
    map-append see old (a ∷ []) ∙ made_more f xs i d (map see old) (see a) within before same

-- of items that are made of those that were taken so far
pub taken_more : {X Y : Type 0} (f : X → Y) (xs : List X) (x : X) (old : List Y) (y : Y) → old ≡ map f xs → y ≡ f x
    → old ++ y ∷ [] ≡ map f (xs ++ x ∷ [])
taken_more f xs x old y before same = ap₂ (λ ys z. ys ++ z ∷ []) before same ∙ sym (map-append f xs (x ∷ []))

-- an item of others
pub list_seen : (items : Vec Item Global) → view (ListItem items) ≡ list (items_view items.items)
list_seen items = search (the_lemmas, rules)
