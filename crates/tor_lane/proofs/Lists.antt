-- Lists put one after the other, where what stands at one place or at two is changed.
use Rattle.std.proofs.Common.{◌≡◌, ◌≢◌, ℕ, zero, suc, List, [], ◌∷◌, ◌++◌, set, sym, refl, ap, ◌∙◌, subst}
use Rattle.std.proofs.Common.{append_assoc, append-nil, IsPermutation}
use Rattle.std.specs.List.{flat_map}
use Rattle.std.proofs.lemmas.List.Sorted.{IsPermutation-refl, IsPermutation-sym, IsPermutation-trans}
use Rattle.std.proofs.lemmas.List.Sorted.{IsPermutation-append_left, IsPermutation-append_right}
use Rattle.std.proofs.lemmas.List.Sorted.{IsPermutation-append_comm, IsPermutation-middle, IsPermutation-to_front}
use mathlib.Core.Option.{some, some-injective, some-ne-none}
use lib.ListN.{get_elem?}
use Rattle.atomic_table.proofs.Lists.{set_again}

module _ {X : Type 0} where
  -- the second part comes first
  pub swapped : (a b c : List X) → IsPermutation (a ++ (b ++ c)) (b ++ (a ++ c))
  swapped a b c = subst (λ (y : List X × List X). IsPermutation y.0 y.1)
      (λ i. (append_assoc a b c i, append_assoc b a c i))
      (IsPermutation-append_left c (a ++ b) (b ++ a) (IsPermutation-append_comm a b))

  module _ {A : Type 0} (f : A → List X) where
    -- what stands at one place comes first
    pub placed : (l : List A) (i : ℕ) (v : A) → get_elem? l i ≡ some v
        → (rest : List X) × ((w : A) → IsPermutation (flat_map f (set l i w)) (f w ++ rest))
    placed [] i v e = absurd (some-ne-none v (sym e))
    placed (x ∷ xs) zero v e = (flat_map f xs, λ w. IsPermutation-refl (f w ++ flat_map f xs))
    placed (x ∷ xs) (suc i) v e = let r = placed xs i v e in (
      f x ++ r.0,
      λ w. IsPermutation-trans _ _ _ (IsPermutation-append_right (f x) _ _ (r.1 w)) (swapped (f x) (f w) r.0),
    )

    -- what stands at two places comes first
    pub placed_two : (l : List A) (i j : ℕ) (v u : A) → j ≢ i → get_elem? l i ≡ some v → get_elem? l j ≡ some u
        → (rest : List X) × ((a b : A) → IsPermutation (flat_map f (set (set l i a) j b)) (f a ++ (f b ++ rest)))
    placed_two [] i j v u apart e k = absurd (some-ne-none v (sym e))
    placed_two (x ∷ xs) zero zero v u apart e k = absurd (apart refl)
    placed_two (x ∷ xs) zero (suc j) v u apart e k = let r = placed xs j u k in
        (r.0, λ a b. IsPermutation-append_right (f a) _ _ (r.1 b))
    placed_two (x ∷ xs) (suc i) zero v u apart e k = let r = placed xs i v e in (
      r.0,
      λ a b. IsPermutation-trans _ _ _ (IsPermutation-append_right (f b) _ _ (r.1 a)) (swapped (f b) (f a) r.0),
    )
    placed_two (x ∷ xs) (suc i) (suc j) v u apart e k = let r = placed_two xs i j v u (λ q. apart (ap suc q)) e k in (
      f x ++ r.0,
      λ a b. IsPermutation-trans _ _ _ (IsPermutation-append_right (f x) _ _ (r.1 a b))
          (IsPermutation-trans _ _ _ (swapped (f x) (f a) (f b ++ r.0))
          (IsPermutation-append_right (f a) _ _ (swapped (f x) (f b) r.0))),
    )

    -- one element more at one place
    pub one_more : (cs : List X) (c : X) (l : List A) (i : ℕ) (v w : A) → get_elem? l i ≡ some v → f w ≡ f v ++ c ∷ []
        → IsPermutation cs (flat_map f l) → IsPermutation (cs ++ c ∷ []) (flat_map f (set l i w))
    one_more cs c l i v w e more same = let r = placed l i v e in
        let before : IsPermutation (flat_map f l) (f v ++ r.0) =
        subst (λ (y : List A). IsPermutation (flat_map f y) (f v ++ r.0)) (set_again l i v e) (r.1 v) in
        let after : IsPermutation (flat_map f (set l i w)) (f v ++ c ∷ r.0) =
        subst (λ (y : List X). IsPermutation (flat_map f (set l i w)) y)
        (ap (λ (y : List X). y ++ r.0) more ∙ append_assoc (f v) (c ∷ []) r.0) (r.1 w) in
        IsPermutation-trans _ _ _
        (IsPermutation-append_left (c ∷ []) cs (f v ++ r.0) (IsPermutation-trans _ _ _ same before))
        (IsPermutation-trans _ _ _ (IsPermutation-to_front (f v ++ r.0) c)
        (IsPermutation-trans _ _ _ (IsPermutation-sym _ _ (IsPermutation-middle (f v) c r.0))
        (IsPermutation-sym _ _ after)))

    -- one place has what two had
    pub merged : (l : List A) (i j : ℕ) (v u a b : A) → j ≢ i → get_elem? l i ≡ some v → get_elem? l j ≡ some u
        → f a ≡ f v ++ f u → f b ≡ [] → IsPermutation (flat_map f l) (flat_map f (set (set l i a) j b))
    merged l i j v u a b apart e k both none = let r = placed_two l i j v u apart e k in
        let same : set (set l i v) j u ≡ l = ap (λ (y : List A). set y j u) (set_again l i v e) ∙ set_again l j u k in
        let before : IsPermutation (flat_map f l) (f v ++ (f u ++ r.0)) =
        subst (λ (y : List A). IsPermutation (flat_map f y) (f v ++ (f u ++ r.0))) same (r.1 v u) in
        let equal : f a ++ (f b ++ r.0) ≡ f v ++ (f u ++ r.0) =
        ap (λ (y : List X). f a ++ (y ++ r.0)) none ∙ ap (λ (y : List X). y ++ r.0) both
        ∙ append_assoc (f v) (f u) r.0 in
        let after : IsPermutation (flat_map f (set (set l i a) j b)) (f v ++ (f u ++ r.0)) =
        subst (λ (y : List X). IsPermutation (flat_map f (set (set l i a) j b)) y) equal (r.1 a b) in
        IsPermutation-trans _ _ _ before (IsPermutation-sym _ _ after)

    -- a change that leaves the part as it is
    pub same_part : (l : List A) (i : ℕ) (v w : A) → get_elem? l i ≡ some v → f w ≡ f v
        → flat_map f (set l i w) ≡ flat_map f l
    same_part [] i v w e same = refl
    same_part (x ∷ xs) zero v w e same
        = ap (λ (y : List X). y ++ flat_map f xs) (same ∙ ap f (sym (some-injective x v e)))
    same_part (x ∷ xs) (suc i) v w e same = ap (λ (y : List X). f x ++ y) (same_part xs i v w e same)

    -- one empty part more
    pub empty_more : (l : List A) (b : A) → f b ≡ [] → flat_map f (l ++ b ∷ []) ≡ flat_map f l
    empty_more [] b none = append-nil (f b) ∙ none
    empty_more (x ∷ xs) b none = ap (λ (y : List X). f x ++ y) (empty_more xs b none)
