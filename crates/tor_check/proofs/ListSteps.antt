-- One item of a list decides for all of them.
use Rattle.tor_check.proofs.Names.{◌≡◌, ℕ, ◌<◌, true, false, Bool, List, [], ◌∷◌, ◌+◌, length, map, take}
use Rattle.tor_check.proofs.Names.{slice_index_or, refl, list_all, list_any, Data, view, ItemRef, list_all_at}
use Rattle.tor_check.proofs.Names.{list_all_more, list_all-map, list_any_at, list_any_more, ◌++◌, map-append, take_more}

pub any_mapped : {X Y : Type 0} (p : Y → Bool) (f : X → Y) (xs : List X)
    → list_any p (map f xs) ≡ list_any (λ x. p (f x)) xs
any_mapped p f [] = refl
any_mapped p f (x ∷ xs) = rw (any_mapped p f xs) refl

pub not_all : (p : Data → Bool) (items : List ItemRef) (i : ℕ) (d : ItemRef) → i < length items
    → p (view (slice_index_or items i d)) ≡ false → list_all p (map view items) ≡ false
not_all p items i d within fails =
    rw (list_all-map p view items) (list_all_at (λ item. p (view item)) items i d within fails)

pub some_one : (p : Data → Bool) (items : List ItemRef) (i : ℕ) (d : ItemRef) → i < length items
    → p (view (slice_index_or items i d)) ≡ true → list_any p (map view items) ≡ true
some_one p items i d within passes =
    rw (any_mapped p view items) (list_any_at (λ item. p (view item)) items i d within passes)

pub all_more : (p : Data → Bool) (items : List ItemRef) (i : ℕ) (d : ItemRef) → i < length items
    → list_all p (map view (take i items)) ≡ true → p (view (slice_index_or items i d)) ≡ true
    → list_all p (map view (take (i + 1) items)) ≡ true
all_more p items i d within before passes =
    let before' : list_all (λ item. p (view item)) (take i items) ≡ true =
    rw (list_all-map p view (take i items)) at before in
    rw (
      list_all-map p view (take (i + 1) items),
      list_all_more (λ item. p (view item)) items i d within,
      before',
      passes,
    ) refl

pub none_more : (p : Data → Bool) (items : List ItemRef) (i : ℕ) (d : ItemRef) → i < length items
    → list_any p (map view (take i items)) ≡ false → p (view (slice_index_or items i d)) ≡ false
    → list_any p (map view (take (i + 1) items)) ≡ false
none_more p items i d within before fails =
    let before' : list_any (λ item. p (view item)) (take i items) ≡ false =
    rw (any_mapped p view (take i items)) at before in
    rw (any_mapped p view (take (i + 1) items), list_any_more (λ item. p (view item)) items i d within, before', fails)
    refl

-- what one more item is mapped to
pub mapped_more : {Y : Type 0} (f : Data → Y) (items : List ItemRef) (i : ℕ) (d : ItemRef) (before : List Y) (y : Y)
    → i < length items → before ≡ map f (map view (take i items)) → y ≡ f (view (slice_index_or items i d))
    → before ++ y ∷ [] ≡ map f (map view (take (i + 1) items))
mapped_more f items i d before y within same e =
    rw (take_more items i d within, map-append view, map-append f, same, e) refl
