-- Conditions that are looked for in stages are looked for in one row.
use Rattle.tor_check.proofs.Names.{◌≡◌, true, false, Bool, List, [], ◌∷◌, ◌++◌, Option, None, Some, cond, refl, ap, sym}
use Rattle.tor_check.proofs.Names.{◌∙◌, inl, inr, subst, find, option_map, Data, refusal_for, IsFirst, first_in}
use Rattle.tor_check.proofs.Names.{first_of_alignment, head_conditions, layer_conditions, alignment_conditions}
use Rattle.tor_check.proofs.Names.{side_conditions, first_of_both, Refusal, Condition, holds, refusal_of, info_of}
use Rattle.tor_check.proofs.FirstOfBoth.{sides_first}

module _ {C : Type 0} (p : C → Bool) where
  -- what a front has is found, and what it lacks is looked for behind it
  pub find_front : (xs ys : List C) (c : C) → find p xs ≡ Some c → find p (xs ++ ys) ≡ Some c
  find_front [] ys c e = absurd cc
  find_front (x ∷ xs) ys c e = by_test (p x) e (find_front xs ys c)
    where
      by_test : (b : Bool) → cond b (Some x) (find p xs) ≡ Some c → (find p xs ≡ Some c → find p (xs ++ ys) ≡ Some c)
          → cond b (Some x) (find p (xs ++ ys)) ≡ Some c
      by_test true h rest = h
      by_test false h rest = rest h

  pub find_behind : (xs ys : List C) → find p xs ≡ None → find p (xs ++ ys) ≡ find p ys
  find_behind [] ys e = refl
  find_behind (x ∷ xs) ys e = by_test (p x) e (find_behind xs ys)
    where
      by_test : (b : Bool) → cond b (Some x) (find p xs) ≡ None → (find p xs ≡ None → find p (xs ++ ys) ≡ find p ys)
          → cond b (Some x) (find p (xs ++ ys)) ≡ find p ys
      by_test true h rest = absurd cc
      by_test false h rest = rest h

-- the first of a stage is the first of all, where none holds before it
pub found : (a : Option Condition) (refusal : Refusal) → option_map refusal_for a ≡ Some refusal
    → (c : Condition) × (a ≡ Some c) × (refusal_for c ≡ refusal)
found None refusal e = absurd cc
found (Some c) refusal e = (c, refl, cc)

pub at_stage : (root : Data) (front stage back : List Condition) (refusal : Refusal)
    → find (holds root) front ≡ None → IsFirst (find (holds root) stage) refusal
    → IsFirst (find (holds root) (front ++ (stage ++ back))) refusal
at_stage root front stage back refusal none (inl memory) = inl memory
at_stage root front stage back refusal none (inr e) =
    let known = found (find (holds root) stage) refusal e in
    let whole : find (holds root) (front ++ (stage ++ back)) ≡ Some known.0 =
    find_behind (holds root) front (stage ++ back) none ∙ find_front (holds root) stage back known.0 known.1 in
    inr (ap (option_map refusal_for) whole ∙ ap Some known.2)

pub refusal_in_stages : (root : Data) → refusal_of root
    ≡ find (holds root) (head_conditions ++ (side_conditions ++ (layer_conditions ++ alignment_conditions)))
refusal_in_stages root = refl

-- the fault that each stage tells is the first of all, if none holds before it
pub at_head : (root : Data) (refusal : Refusal) → IsFirst (first_in head_conditions root) refusal
    → IsFirst (refusal_of root) refusal
at_head root refusal first =
    at_stage root [] head_conditions (side_conditions ++ (layer_conditions ++ alignment_conditions)) refusal refl first

pub at_sides : (root : Data) (refusal : Refusal) → first_in head_conditions root ≡ None
    → IsFirst (first_of_both (info_of root)) refusal → IsFirst (refusal_of root) refusal
at_sides root refusal none first =
    at_stage root head_conditions side_conditions (layer_conditions ++ alignment_conditions) refusal none
    (subst (λ found. IsFirst found refusal) (sym (sides_first root)) first)

-- nothing is found in two rows
find_both : (root : Data) (xs ys : List Condition) → find (holds root) xs ≡ None → find (holds root) ys ≡ None
    → find (holds root) (xs ++ ys) ≡ None
find_both root xs ys none e = find_behind (holds root) xs ys none ∙ e

pub at_layers : (root : Data) (refusal : Refusal) → first_in head_conditions root ≡ None
    → first_of_both (info_of root) ≡ None → IsFirst (first_in layer_conditions root) refusal
    → IsFirst (refusal_of root) refusal
at_layers root refusal none sides first =
    at_stage root (head_conditions ++ side_conditions) layer_conditions alignment_conditions refusal
    (find_both root head_conditions side_conditions none (sides_first root ∙ sides)) first

pub at_alignment : (root : Data) (refusal : Refusal) → first_in head_conditions root ≡ None
    → first_of_both (info_of root) ≡ None → first_in layer_conditions root ≡ None
    → IsFirst (first_of_alignment (info_of root)) refusal → IsFirst (refusal_of root) refusal
at_alignment root refusal none sides layers first =
    at_stage root (head_conditions ++ (side_conditions ++ layer_conditions)) alignment_conditions [] refusal
    (find_both root head_conditions (side_conditions ++ layer_conditions) none
    (find_both root side_conditions layer_conditions (sides_first root ∙ sides) layers)) first

pub at_end : (root : Data) → first_in head_conditions root ≡ None → first_of_both (info_of root) ≡ None
    → first_in layer_conditions root ≡ None → first_of_alignment (info_of root) ≡ None → refusal_of root ≡ None
at_end root none sides layers aligned =
    find_both root head_conditions (side_conditions ++ (layer_conditions ++ alignment_conditions)) none
    (find_both root side_conditions (layer_conditions ++ alignment_conditions) (sides_first root ∙ sides)
    (find_both root layer_conditions alignment_conditions layers aligned))
