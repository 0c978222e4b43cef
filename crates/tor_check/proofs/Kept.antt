-- What is kept at the indices of keys.
use Rattle.tor_check.proofs.Names.{◌≡◌, ℕ, zero, suc, List, [], ◌∷◌, Some, ◌⊎◌, inl, inr, ap, refl, subst, sym, ◌∙◌}
use Rattle.tor_check.proofs.Names.{Bool, true, false, Option, None, unwrap_or}
use Rattle.tor_check.proofs.Names.{none-some, same_Some, slice_get, replicate, Data, IsKept, keys_in}
use Rattle.std.proofs.Math.ListN.{set}

get_replicate : {X : Type 0} (n : ℕ) (x : X) (i : ℕ) (y : X) → slice_get (replicate n x) i ≡ Some y → x ≡ y
get_replicate zero x i y e = absurd (none-some y e)
get_replicate (suc n) x zero y e = same_Some x y e
get_replicate (suc n) x (suc i) y e = get_replicate n x i y e

-- a mark that is there and set
pub mark_is_set : (mark : Option Bool) → unwrap_or mark false ≡ true → mark ≡ Some true
mark_is_set None e = absurd cc
mark_is_set (Some mark) e = ap Some e

-- what a list has that was changed in one place
get_set : {X : Type 0} (xs : List X) (i : ℕ) (x : X) (j : ℕ) (y : X) → slice_get (set xs i x) j ≡ Some y
    → ((j ≡ i) × (x ≡ y)) ⊎ (slice_get xs j ≡ Some y)
get_set [] i x j y e = inr e
get_set (z ∷ zs) zero x zero y e = inl (refl, same_Some x y e)
get_set (z ∷ zs) zero x (suc j) y e = inr e
get_set (z ∷ zs) (suc i) x zero y e = inr e
get_set (z ∷ zs) (suc i) x (suc j) y e = elim (get_set zs i x j y e) [
  | inl p ↦ inl (ap (λ (n : ℕ). suc n) p.0, p.1)
  | inr q ↦ inr q
]

-- what is fit for each root is so at each index
pub kept_everywhere : {X : Type 0} (IsFit : List ℕ → X → Type 0) (layers : Data) (n : ℕ) (x : X)
    → ((root : List ℕ) → IsFit root x) → IsKept IsFit layers (replicate n x)
kept_everywhere IsFit layers n x fit =
    λ i root y named at. subst (IsFit root) (get_replicate n x i y at) (fit root)

-- and what is fit for a root is so at the root's index
pub kept_one_more : {X : Type 0} (IsFit : List ℕ → X → Type 0) (layers : Data) (kept : List X) (i : ℕ)
    (root : List ℕ) (x : X) → slice_get (keys_in layers) i ≡ Some root → IsFit root x → IsKept IsFit layers kept
    → IsKept IsFit layers (set kept i x)
kept_one_more {X} IsFit layers kept i root x named fit all =
    λ j other y named_other at. elim (get_set kept i x j y at) [
      | inl p ↦
          let same : root ≡ other =
          same_Some root other (sym named ∙ ap (slice_get (keys_in layers)) (sym p.0) ∙ named_other) in
          subst (IsFit other) p.1 (subst (λ r. IsFit r x) same fit)
      | inr q ↦ all j other y named_other q
    ]
