-- The first fault of a list that is gone through, and what holds of all before it.
use Rattle.std.proofs.Common.{◌≡◌, ◌<◌, ◌++◌, ◌∷◌, [], ◌∙◌, ℕ, zero, suc, List, Option, None, Some, ap, arith, get_or, length}
use Rattle.std.proofs.Common.{map, refl, take}
use Rattle.std.specs.List.{AllByRecursion, flat_map}
use Rattle.std.specs.Option.{option_or}
use Rattle.tor_sums.specs.Fault.{first_of}

pub both_none : {B : Type 0} (a b : Option B) → option_or a b ≡ None → (a ≡ None) × (b ≡ None)
both_none None b none = (refl, none)
both_none (Some x) b none = cc

module _ {A B : Type 0} (f : A → Option B) where
  none_both : (xs ys : List A) → first_of f xs ≡ None → first_of f ys ≡ None → first_of f (xs ++ ys) ≡ None
  unfolding first_of
  none_both [] ys none more = more
  none_both (x ∷ xs) ys none more =
      let parts = both_none (f x) (first_of f xs) none in rw parts.0 (none_both xs ys parts.1 more)

  found_first : (xs ys : List A) (e : B) → first_of f xs ≡ Some e → first_of f (xs ++ ys) ≡ Some e
  unfolding first_of
  found_first [] ys e found = cc
  found_first (x ∷ xs) ys e found = by_first (f x) found (found_first xs ys e)
    where
      by_first : (o : Option B) → option_or o (first_of f xs) ≡ Some e
          → (first_of f xs ≡ Some e → first_of f (xs ++ ys) ≡ Some e)
          → option_or o (first_of f (xs ++ ys)) ≡ Some e
      by_first None found later = later found
      by_first (Some other) found later = found

  found_later : (xs ys : List A) (e : B) → first_of f xs ≡ None → first_of f ys ≡ Some e → first_of f (xs ++ ys) ≡ Some e
  unfolding first_of
  found_later [] ys e none found = found
  found_later (x ∷ xs) ys e none found =
      let parts = both_none (f x) (first_of f xs) none in rw parts.0 (found_later xs ys e parts.1 found)

  pub split_none : (ys zs : List A) → first_of f (ys ++ zs) ≡ None → (first_of f ys ≡ None) × (first_of f zs ≡ None)
  unfolding first_of
  split_none [] zs none = (refl, none)
  split_none (y ∷ ys) zs none =
      let parts = both_none (f y) (first_of f (ys ++ zs)) none in
      let rest = split_none ys zs parts.1 in (rw parts.0 rest.0, rest.1)

  alone : (a : A) (o : Option B) → f a ≡ o → first_of f (a ∷ []) ≡ o
  unfolding first_of
  alone a None is = rw is refl
  alone a (Some e) is = rw is refl
  -- ---- one more of a list, each of which stands for several

module _ {A B X : Type 0} (f : A → Option B) where
  pub none_more : (g : X → List A) (xs : List X) (i : ℕ) (d : X) → i < length xs
      → first_of f (flat_map g (take i xs)) ≡ None → first_of f (g (get_or xs i d)) ≡ None
      → first_of f (flat_map g (take (suc i) xs)) ≡ None
  unfolding first_of
  none_more g [] i d there none more = absurd (omega (arith, there))
  none_more g (x ∷ xs) zero d there none more = none_both f (g x) [] more refl
  none_more g (x ∷ xs) (suc i) d there none more =
      let parts = split_none f (g x) (flat_map g (take i xs)) none in
      none_both f (g x) (flat_map g (take (suc i) xs)) parts.0 (none_more g xs i d (omega (arith, there)) parts.1 more)

  pub found_at : (g : X → List A) (xs : List X) (i : ℕ) (d : X) (e : B) → i < length xs
      → first_of f (flat_map g (take i xs)) ≡ None → first_of f (g (get_or xs i d)) ≡ Some e
      → first_of f (flat_map g xs) ≡ Some e
  unfolding first_of
  found_at g [] i d e there none found = absurd (omega (arith, there))
  found_at g (x ∷ xs) zero d e there none found = found_first f (g x) (flat_map g xs) e found
  found_at g (x ∷ xs) (suc i) d e there none found =
      let parts = split_none f (g x) (flat_map g (take i xs)) none in
      found_later f (g x) (flat_map g xs) e parts.0 (found_at g xs i d e (omega (arith, there)) parts.1 found)

  -- ---- and each of which stands for one

  one_each : (h : X → A) (xs : List X) → map h xs ≡ flat_map (λ x. h x ∷ []) xs
  one_each h [] = refl
  one_each h (x ∷ xs) = ap (λ (all : List A). h x ∷ all) (one_each h xs)

  pub none_next : (h : X → A) (xs : List X) (i : ℕ) (d : X) → i < length xs
      → first_of f (map h (take i xs)) ≡ None → f (h (get_or xs i d)) ≡ None
      → first_of f (map h (take (suc i) xs)) ≡ None
  none_next h xs i d there none more =
      ap (first_of f) (one_each h (take (suc i) xs))
      ∙ none_more (λ x. h x ∷ []) xs i d there (rw (one_each h (take i xs)) at none) (alone f (h (get_or xs i d)) None more)

  pub found_next : (h : X → A) (xs : List X) (i : ℕ) (d : X) (e : B) → i < length xs
      → first_of f (map h (take i xs)) ≡ None → f (h (get_or xs i d)) ≡ Some e
      → first_of f (map h xs) ≡ Some e
  found_next h xs i d e there none found =
      ap (first_of f) (one_each h xs)
      ∙ found_at (λ x. h x ∷ []) xs i d e there (rw (one_each h (take i xs)) at none)
      (alone f (h (get_or xs i d)) (Some e) found)

-- ---- what holds of all

pub all_both : {A : Type 0} (P : A → Type 0) (xs ys : List A) → AllByRecursion P xs → AllByRecursion P ys
    → AllByRecursion P (xs ++ ys)
all_both P [] ys one more = more
all_both P (x ∷ xs) ys one more = (one.0, all_both P xs ys one.1 more)

split_all : {A : Type 0} (P : A → Type 0) (ys zs : List A) → AllByRecursion P (ys ++ zs)
    → AllByRecursion P ys × AllByRecursion P zs
split_all P [] zs all = (tt, all)
split_all P (y ∷ ys) zs all = let rest = split_all P ys zs all.1 in ((all.0, rest.0), rest.1)

pub all_more : {A X : Type 0} (P : A → Type 0) (g : X → List A) (xs : List X) (i : ℕ) (d : X) → i < length xs
    → AllByRecursion P (flat_map g (take i xs)) → AllByRecursion P (g (get_or xs i d))
    → AllByRecursion P (flat_map g (take (suc i) xs))
all_more P g [] i d there all more = absurd (omega (arith, there))
all_more P g (x ∷ xs) zero d there all more = all_both P (g x) [] more tt
all_more P g (x ∷ xs) (suc i) d there all more =
    let parts = split_all P (g x) (flat_map g (take i xs)) all in
    all_both P (g x) (flat_map g (take (suc i) xs)) parts.0 (all_more P g xs i d (omega (arith, there)) parts.1 more)

pub all_next : {A X : Type 0} (P : A → Type 0) (h : X → A) (xs : List X) (i : ℕ) (d : X) → i < length xs
    → AllByRecursion P (map h (take i xs)) → P (h (get_or xs i d)) → AllByRecursion P (map h (take (suc i) xs))
all_next P h [] i d there all more = absurd (omega (arith, there))
all_next P h (x ∷ xs) zero d there all more = (more, tt)
all_next P h (x ∷ xs) (suc i) d there all more = (all.0, all_next P h xs i d (omega (arith, there)) all.1 more)
