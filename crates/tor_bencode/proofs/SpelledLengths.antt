-- How many bytes spellings have, part by part.
use Rattle.tor_bencode.proofs.Names.{◌≡◌, ◌+◌, ◌<◌, ◌++◌, ◌∷◌, ◌∙◌, ℕ, List, [], Bor, ap, refl, sym, length, get_or}
use Rattle.tor_bencode.proofs.Names.{take, drop}
use Rattle.tor_bencode.proofs.Names.{length-append, take_at_read, drop_more, arith, Data, Items, Pairs, item, no_items}
use Rattle.tor_bencode.proofs.Names.{pair, no_pairs}
use Rattle.tor_bencode.proofs.Names.{ItemRef, ref_view, ref_items_view, ref_pairs_view, spelling, items_spelling}
use Rattle.tor_bencode.proofs.Names.{pairs_spelling, string_spelling, codes}
use Rattle.tor_bencode.proofs.Loops.{items_before, items_view-push, pairs_before, pairs_view-push}

length-items : (front : Items) (d : Data)
    → length (items_spelling (items_before front (item d no_items)))
    ≡ length (items_spelling front) + length (spelling d)
length-items no_items d = length-append (spelling d) [] ∙ omega arith
length-items (item e front) d =
    length-append (spelling e) (items_spelling (items_before front (item d no_items)))
    ∙ ap (λ n. length (spelling e) + n) (length-items front d)
    ∙ omega (arith, length-append (spelling e) (items_spelling front))

pub length-pair : (key : List ℕ) (d : Data) (pairs : Pairs)
    → length (pairs_spelling (pair key d pairs))
    ≡ length (string_spelling key) + length (spelling d) + length (pairs_spelling pairs)
length-pair key d pairs =
    length-append (string_spelling key ++ spelling d) (pairs_spelling pairs)
    ∙ ap (λ n. n + length (pairs_spelling pairs)) (length-append (string_spelling key) (spelling d))

length-pairs : (front : Pairs) (key : List ℕ) (d : Data)
    → length (pairs_spelling (pairs_before front (pair key d no_pairs)))
    ≡ length (pairs_spelling front) + (length (string_spelling key) + length (spelling d))
length-pairs no_pairs key d = length-pair key d no_pairs ∙ omega arith
length-pairs (pair k e front) key d =
    length-pair k e (pairs_before front (pair key d no_pairs))
    ∙ ap (λ n. length (string_spelling k) + length (spelling e) + n) (length-pairs front key d)
    ∙ omega (arith, length-pair k e front)

-- one more item
pub items_longer : (items : List ItemRef) (i : ℕ) (x : ItemRef) → i < length items → x ≡ get_or items i x
    → length (items_spelling (ref_items_view (take (i + 1) items)))
    ≡ length (items_spelling (ref_items_view (take i items))) + length (spelling (ref_view x))
items_longer items i x within is =
    ap (λ xs. length (items_spelling (ref_items_view xs))) (take_at_read items i x within).1
    ∙ ap (λ all. length (items_spelling all)) (items_view-push (take i items) (get_or items i x))
    ∙ length-items (ref_items_view (take i items)) (ref_view (get_or items i x))
    ∙ ap (λ y. length (items_spelling (ref_items_view (take i items))) + length (spelling (ref_view y))) (sym is)

-- one more pair
pub pairs_longer : (pairs : List (Bor (List ℕ) × ItemRef)) (i : ℕ) (x : Bor (List ℕ) × ItemRef) → i < length pairs
    → x ≡ get_or pairs i x
    → length (pairs_spelling (ref_pairs_view (take (i + 1) pairs)))
    ≡ length (pairs_spelling (ref_pairs_view (take i pairs)))
    + (length (string_spelling x.0.now) + length (spelling (ref_view x.1)))
pairs_longer pairs i x within is =
    ap (λ xs. length (pairs_spelling (ref_pairs_view xs))) (take_at_read pairs i x within).1
    ∙ ap (λ all. length (pairs_spelling all)) (pairs_view-push (take i pairs) (get_or pairs i x).0 (get_or pairs i x).1)
    ∙ length-pairs (ref_pairs_view (take i pairs)) (get_or pairs i x).0.now (ref_view (get_or pairs i x).1)
    ∙ ap (λ y. length (pairs_spelling (ref_pairs_view (take i pairs)))
    + (length (string_spelling y.0.now) + length (spelling (ref_view y.1)))) (sym is)

-- a list or a dictionary has two bytes more
pub length-in : (c : ℕ) (inside : List ℕ) → length (c ∷ [] ++ inside ++ codes "e") ≡ length inside + 2
length-in c inside = length-append (c ∷ [] ++ inside) (codes "e") ∙ omega (arith, length-append (c ∷ []) inside)

-- what is left begins with a pair
pub left_from : (pairs : List (Bor (List ℕ) × ItemRef)) (i : ℕ) (x : Bor (List ℕ) × ItemRef) → i < length pairs
    → x ≡ get_or pairs i x
    → ref_pairs_view (drop i pairs) ≡ pair x.0.now (ref_view x.1) (ref_pairs_view (drop (i + 1) pairs))
left_from pairs i x within is = ap ref_pairs_view (drop_more pairs i x within) ∙ rw (sym is) refl
