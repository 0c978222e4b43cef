-- Lists from an index on.
use Rattle.tor_view.proofs.Names.{◌≡◌, ℕ, ◌+◌, List, [], drop, get_or, arith, ap, ◌∙◌, drop-drop}
use Rattle.tor_view.proofs.Names.{get_or-drop, zero, suc, ◌∷◌, ◌++◌, map, sym, append-nil, append_assoc, add-one}
use Rattle.tor_view.proofs.Names.{map-range_with_len_more, range_with_len}

-- the first element from an index on, and the others
pub first_of : {X : Type 0} (xs : List X) (index : ℕ) (none : X) → get_or (drop index xs) 0 none ≡ get_or xs index none
first_of xs index none =
    get_or-drop index xs 0 none ∙ ap (λ n. get_or xs n none) (let e : index + 0 ≡ index = omega arith in e)

pub first_from : (contents : List (List ℕ)) (index : ℕ) → get_or (drop index contents) 0 [] ≡ get_or contents index []
first_from contents index = first_of contents index []

pub others_from : (contents : List (List ℕ)) (index : ℕ) → drop 1 (drop index contents) ≡ drop (index + 1) contents
others_from contents index = drop-drop 1 index contents

-- what a function gives at numbers is cut in two
pub range_split : {X : Type 0} (f : ℕ → X) (a m n : ℕ)
    → map f (range_with_len a (m + n)) ≡ map f (range_with_len a m) ++ map f (range_with_len (a + m) n)
range_split f a m zero =
    ap (λ k. map f (range_with_len a k)) (let e : m + 0 ≡ m = omega arith in e)
    ∙ sym (append-nil (map f (range_with_len a m)))
range_split f a m (suc n) =
    ap (λ k. map f (range_with_len a k)) (let e : m + suc n ≡ m + n + 1 = omega arith in e)
    ∙ map-range_with_len_more f a (m + n) (a + m + n) (omega arith)
    ∙ ap (λ xs. xs ++ f (a + m + n) ∷ []) (range_split f a m n)
    ∙ append_assoc (map f (range_with_len a m)) (map f (range_with_len (a + m) n)) (f (a + m + n) ∷ [])
    ∙ ap (λ ys. map f (range_with_len a m) ++ ys) (sym (map-range_with_len_more f (a + m) n (a + m + n) (omega arith))
    ∙ ap (λ k. map f (range_with_len (a + m) k)) (add-one n))
