-- What holds of no file of a list, and what is found nowhere in a row of conditions.
use Rattle.tor_check.proofs.Names.{◌≡◌, ℕ, zero, suc, ◌<◌, false, Bool, List, [], ◌∷◌, ◌++◌, map, Option, None, Some}
use Rattle.tor_check.proofs.Names.{get_or, refl, subst, sym, ◌∙◌, find, option_map, slice_get, All, list_any}
use Rattle.tor_check.proofs.Names.{All-from_recursion, All-get_or, get_or_from_slice_get, none-some, same_Some}
use Rattle.tor_check.proofs.Names.{slice_get-map, slice_get_within, Data, alignment_conditions}
use Rattle.tor_check.proofs.Names.{conditions_before_memory, first_in, head_conditions, layer_conditions}
use Rattle.tor_check.proofs.Names.{side_conditions, first_of_both, Condition, conditions, holds, refusal_of, info_of}
use Rattle.tor_check.proofs.Bounds.{first_or, found_none}
use Rattle.tor_check.proofs.FirstOfBoth.{sides_first}
use Rattle.tor_check.proofs.Stages.{find_behind, find_front}
use Rattle.tor_spec.specs.valid.Conditions as named

-- the condition at an index of the row, counted from V2, does not hold
pub not_held : (root : Data) → refusal_of root ≡ None → (i : ℕ) → i < 23
    → holds root (get_or conditions i named.RootShape) ≡ false
not_held root none i within =
    All-get_or (λ c. holds root c ≡ false) conditions i named.RootShape within
    (All-from_recursion (λ c. holds root c ≡ false) conditions (found_none (holds root) conditions none))

-- what is not in the whole is not in its front
none_front : (p : Condition → Bool) (front back : List Condition) → find p (front ++ back) ≡ None
    → find p front ≡ None
none_front p front back none = by_found (find p front) refl
  where
    by_found : (o : Option Condition) → find p front ≡ o → o ≡ None
    by_found None is = refl
    by_found (Some c) is = absurd (none-some c (sym none ∙ find_front p front back c is))

-- a head without fault has none that is told without memory
pub before_memory : (root : Data) → first_in head_conditions root ≡ None → first_in conditions_before_memory root ≡ None
before_memory root none = none_front (holds root) conditions_before_memory (named.LengthAndFiles ∷ []) none

-- no side has a fault
pub no_side_fault : (root : Data) → refusal_of root ≡ None → first_of_both (info_of root) ≡ None
no_side_fault root none =
    let behind = side_conditions ++ (layer_conditions ++ alignment_conditions) in
    let heads = none_front (holds root) head_conditions behind none in
    let sides = sym (find_behind (holds root) head_conditions behind heads) ∙ none in
    sym (sides_first root) ∙ none_front (holds root) side_conditions (layer_conditions ++ alignment_conditions) sides

-- what holds of none of a list does not hold of the one at an index
pub none_at : {X : Type 0} (p : X → Bool) (xs : List X) (i : ℕ) (x : X) → list_any p xs ≡ false
    → slice_get xs i ≡ Some x → p x ≡ false
none_at p [] i x none at = absurd (none-some x at)
none_at p (y ∷ ys) zero x none at =
    subst (λ z. p z ≡ false) (same_Some y x at) (first_or (p y) (list_any p ys) none).0
none_at p (y ∷ ys) (suc i) x none at = none_at p ys i x (first_or (p y) (list_any p ys) none).1 at

-- what holds of all holds of it
pub all_at : {X : Type 0} (P : X → Type 0) (xs : List X) (i : ℕ) (x : X) → All P xs → slice_get xs i ≡ Some x → P x
all_at P xs i x all at =
    subst P (get_or_from_slice_get xs i x x at) (All-get_or P xs i x (slice_get_within xs i x at) all)

-- what a mapped list has at an index is made of what the list has there
made_of : {X Y : Type 0} (f : X → Y) (o : Option X) (y : Y) → option_map f o ≡ Some y
    → (x : X) × (o ≡ Some x) × (f x ≡ y)
made_of f None y e = absurd (none-some y e)
made_of f (Some x) y e = (x, refl, same_Some (f x) y e)

pub mapped_at : {X Y : Type 0} (f : X → Y) (xs : List X) (i : ℕ) (y : Y) → slice_get (map f xs) i ≡ Some y
    → (x : X) × (slice_get xs i ≡ Some x) × (f x ≡ y)
mapped_at f xs i y at = made_of f (slice_get xs i) y (sym (slice_get-map f xs i) ∙ at)
