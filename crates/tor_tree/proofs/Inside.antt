-- Lists that begin with other lists, where lists are ordered element by element, a beginning first.
use Rattle.tor_tree.proofs.Cited.{◌≡◌, ◌<◌, Bool, true, ◌&&◌, List, [], ◌∷◌, length, Ordering, Less, Equal, Greater}
use Rattle.tor_tree.proofs.Cited.{refl, sym, ap, ◌∙◌, subst, arith, IsTotalOrder, slice_cmp, eq_by_cmp, is_eq}
use Rattle.tor_tree.proofs.Cited.{ordering_then, starts_with, and_parts, and_from, alike_right}

module _ {K : Type 0} {R : K → K → Ordering} (o : IsTotalOrder R) {E : K → K → Bool}
    (ties : (x y : K) → E x y ≡ eq_by_cmp R x y) where
  tied : (x y : K) → E x y ≡ true → R x y ≡ Equal
  tied x y e = from (R x y) (sym (ties x y) ∙ e)
    where
      from : (r : Ordering) → is_eq r ≡ true → r ≡ Equal
      from Less h = cc
      from Equal h = refl
      from Greater h = cc

  -- what begins with a list and is longer comes after it
  pub after_beginning : (x z : List K) → starts_with E z x ≡ true → length x < length z → slice_cmp R x z ≡ Less
  after_beginning [] [] s l = absurd (omega arith)
  after_beginning [] (c ∷ z) s l = refl
  after_beginning (a ∷ x) [] s l = cc
  after_beginning (a ∷ x) (c ∷ z) s l =
      let parts = and_parts (E a c) (starts_with E z x) s in
      rw (tied a c parts.0) (after_beginning x z parts.1 (omega arith))

  -- what begins with a list and comes after it is longer
  pub longer_than_beginning : (x z : List K) → starts_with E z x ≡ true → slice_cmp R x z ≡ Less → length x < length z
  longer_than_beginning [] [] s l = cc
  longer_than_beginning [] (c ∷ z) s l = omega arith
  longer_than_beginning (a ∷ x) [] s l = cc
  longer_than_beginning (a ∷ x) (c ∷ z) s l =
      let parts = and_parts (E a c) (starts_with E z x) s in
      let less = longer_than_beginning x z parts.1 (rw (tied a c parts.0) at l) in
      omega arith

  -- what lies between a list and one that begins with it begins with it too
  pub beginning_between : (x y z : List K) → slice_cmp R x y ≡ Less → slice_cmp R y z ≡ Less → starts_with E z x ≡ true
      → starts_with E y x ≡ true
  beginning_between [] y z p q s = refl
  beginning_between (a ∷ x) [] z p q s = cc
  beginning_between (a ∷ x) (b ∷ y) [] p q s = cc
  beginning_between (a ∷ x) (b ∷ y) (c ∷ z) p q s =
      let parts = and_parts (E a c) (starts_with E z x) s in
      by_heads (R a b) (R b c) refl refl p q (tied a c parts.0) (λ less rest. beginning_between x y z less rest parts.1)
    where
      by_heads : (r t : Ordering) → R a b ≡ r → R b c ≡ t → ordering_then r (slice_cmp R x y) ≡ Less
          → ordering_then t (slice_cmp R y z) ≡ Less → R a c ≡ Equal
          → (slice_cmp R x y ≡ Less → slice_cmp R y z ≡ Less → starts_with E y x ≡ true)
          → (E a b && starts_with E y x) ≡ true
      by_heads Less Less e f p q ac inner = let less = o.trans a b c e f in cc
      by_heads Less Equal e f p q ac inner = let same = alike_right o b c a f in cc
      by_heads Less Greater e f p q ac inner = cc
      by_heads Equal t e f p q ac inner =
          let bc : R b c ≡ Equal = sym (o.congr a b c e) ∙ ac in
          let rest : slice_cmp R y z ≡ Less =
          subst (λ (v : Ordering). ordering_then v (slice_cmp R y z) ≡ Less) (sym f ∙ bc) q in
          and_from (E a b) (starts_with E y x) (ties a b ∙ ap is_eq e) (inner p rest)
      by_heads Greater t e f p q ac inner = cc
