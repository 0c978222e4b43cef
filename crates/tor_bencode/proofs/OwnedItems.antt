-- Items and pairs made one by one of those that borrow their bytes.
use Rattle.tor_bencode.proofs.Names.{◌≡◌, ◌<◌, ◌+◌, ◌++◌, ◌∷◌, ◌∙◌, ℕ, List, [], Vec, Global, Bor, ap, ap₂, refl}
use Rattle.tor_bencode.proofs.Names.{sym, length, get_or, take, take_at_read, Data, Item, ItemRef, item, no_items, pair}
use Rattle.tor_bencode.proofs.Names.{no_pairs, view, items_view, pairs_view, ref_view, ref_items_view, ref_pairs_view}
use Rattle.tor_bencode.proofs.Names.{Items, Pairs}
use Rattle.tor_bencode.proofs.Loops.{items_before, items_view-push, pairs_before, pairs_view-push}

own_items-push : (items : List Item) (x : Item)
    → items_view (items ++ x ∷ []) ≡ items_before (items_view items) (item (view x) no_items)
own_items-push [] x = refl
own_items-push (y ∷ items) x = ap (item (view y)) (own_items-push items x)

own_pairs-push : (pairs : List (Vec ℕ Global × Item)) (key : Vec ℕ Global) (x : Item)
    → pairs_view (pairs ++ (key, x) ∷ []) ≡ pairs_before (pairs_view pairs) (pair key.items (view x) no_pairs)
own_pairs-push [] key x = refl
own_pairs-push (y ∷ pairs) key x = ap (pair y.0.items (view y.1)) (own_pairs-push pairs key x)

-- one more item
pub items_more : (owned : List Item) (x : Item) (items : List ItemRef) (i : ℕ) (y : ItemRef) → i < length items
    → y ≡ get_or items i y → items_view owned ≡ ref_items_view (take i items) → view x ≡ ref_view y
    → items_view (owned ++ x ∷ []) ≡ ref_items_view (take (i + 1) items)
items_more owned x items i y within is so_far same =
    own_items-push owned x
    ∙ ap₂ (λ (front : Items) (d : Data). items_before front (item d no_items)) so_far (same ∙ ap ref_view is)
    ∙ sym (items_view-push (take i items) (get_or items i y))
    ∙ ap ref_items_view (sym (take_at_read items i y within).1)

-- one more pair
pub pairs_more : (owned : List (Vec ℕ Global × Item)) (key : Vec ℕ Global) (x : Item)
    (pairs : List (Bor (List ℕ) × ItemRef)) (i : ℕ) (y : Bor (List ℕ) × ItemRef) → i < length pairs
    → y ≡ get_or pairs i y → pairs_view owned ≡ ref_pairs_view (take i pairs) → key.items ≡ y.0.now
    → view x ≡ ref_view y.1
    → pairs_view (owned ++ (key, x) ∷ []) ≡ ref_pairs_view (take (i + 1) pairs)
pairs_more owned key x pairs i y within is so_far named same =
    own_pairs-push owned key x
    ∙ ap₂ (λ (front : Pairs) (rest : Pairs). pairs_before front rest) so_far
    (ap₂ (λ (k : List ℕ) (d : Data). pair k d no_pairs) (named ∙ ap (λ p. p.0.now) is)
    (same ∙ ap (λ p. ref_view p.1) is))
    ∙ sym (pairs_view-push (take i pairs) (get_or pairs i y).0 (get_or pairs i y).1)
    ∙ ap ref_pairs_view (sym (take_at_read pairs i y within).1)

-- and the other way round
pub refs_more : (lent : List ItemRef) (x : ItemRef) (items : List Item) (i : ℕ) (y : Item) → i < length items
    → y ≡ get_or items i y → ref_items_view lent ≡ items_view (take i items) → ref_view x ≡ view y
    → ref_items_view (lent ++ x ∷ []) ≡ items_view (take (i + 1) items)
refs_more lent x items i y within is so_far same =
    items_view-push lent x
    ∙ ap₂ (λ (front : Items) (d : Data). items_before front (item d no_items)) so_far (same ∙ ap view is)
    ∙ sym (own_items-push (take i items) (get_or items i y))
    ∙ ap items_view (sym (take_at_read items i y within).1)

pub ref_pairs_more : (lent : List (Bor (List ℕ) × ItemRef)) (key : Bor (List ℕ)) (x : ItemRef)
    (pairs : List (Vec ℕ Global × Item)) (i : ℕ) (y : Vec ℕ Global × Item) → i < length pairs
    → y ≡ get_or pairs i y → ref_pairs_view lent ≡ pairs_view (take i pairs) → key.now ≡ y.0.items
    → ref_view x ≡ view y.1
    → ref_pairs_view (lent ++ (key, x) ∷ []) ≡ pairs_view (take (i + 1) pairs)
ref_pairs_more lent key x pairs i y within is so_far named same =
    pairs_view-push lent key x
    ∙ ap₂ (λ (front : Pairs) (rest : Pairs). pairs_before front rest) so_far
    (ap₂ (λ (k : List ℕ) (d : Data). pair k d no_pairs) (named ∙ ap (λ p. p.0.items) is)
    (same ∙ ap (λ p. view p.1) is))
    ∙ sym (own_pairs-push (take i pairs) (get_or pairs i y).0 (get_or pairs i y).1)
    ∙ ap pairs_view (sym (take_at_read pairs i y within).1)
