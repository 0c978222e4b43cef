-- The names of a listing, sorted and each kept once, are the same names.
use Rattle.std.proofs.Common.{◌≡◌, ℕ, zero, suc, true, Option, Some, None, IfSome, Vec, Global, List, [], ◌∷◌, map}
use Rattle.std.proofs.Common.{nat_eq, refl, sym, ap, ◌∙◌, arith}
use Rattle.std.specs.Prelude.{vec_items}
use Rattle.std.specs.Cmp.Lexicographic.{on_texts_equal, pointwise}
use Rattle.std.specs.Io.KnownBytes.{prepend_known}
use Rattle.std.specs.List.{Contains, dedup}
use Rattle.std.specs.List.Sorted.{IsPermutation}
use Rattle.std.specs.Ordering.{on}
use Rattle.std.proofs.lemmas.Bool.{and_parts, eqb-true}
use Rattle.std.proofs.lemmas.List.Kept.{Any-dedup, Contains-from_dedup}
use Rattle.std.proofs.lemmas.List.Sorted.{Contains-permutation, IsPermutation-sym}
use Rattle.tor_source.specs.steps.Listing.{HasSameNames, names_in}

abbrev Name : Type 0
Name = Vec ℕ Global

pub same_bytes : (xs ys : List ℕ) → pointwise nat_eq xs ys ≡ true → xs ≡ ys
same_bytes [] [] e = refl
same_bytes [] (y ∷ ys) e = cc
same_bytes (x ∷ xs) [] e = cc
same_bytes (x ∷ xs) (y ∷ ys) e =
    let parts = and_parts (nat_eq x y) (pointwise nat_eq xs ys) e in
    rw (eqb-true x y parts.0, same_bytes xs ys parts.1) refl

in_map : {X : Type 0} (f : X → List ℕ) (xs : List X) (name : List ℕ) → Contains (map f xs) name
    → (x : X) × Contains xs x × (f x ≡ name)
in_map f [] name (k, within, is) = absurd (omega arith)
in_map f (x ∷ xs) name (zero, within, is) = (x, (0, omega arith, refl), is)
in_map f (x ∷ xs) name (suc k, within, is) =
    let (found, (i, inside, at), same) = in_map f xs name (k, omega arith, is) in
    (found, (suc i, omega arith, at), same)

to_map : {X : Type 0} (f : X → List ℕ) (xs : List X) (x : X) → Contains xs x → Contains (map f xs) (f x)
to_map f [] x (k, within, is) = absurd (omega arith)
to_map f (y ∷ xs) x (zero, within, is) = (0, omega arith, ap f is)
to_map f (y ∷ xs) x (suc k, within, is) =
    let (i, inside, at) = to_map f xs x (k, omega arith, is) in
    (suc i, omega arith, at)

module _ (found sorted : List Name) (moved : IsPermutation found sorted) where
  abbrev kept : List Name
  kept = dedup (on vec_items (pointwise nat_eq)) sorted

  none_lost : (name : List ℕ) → Contains (map vec_items found) name → Contains (map vec_items kept) name
  none_lost name listed =
      let (one, here, is) = in_map vec_items found name listed in
      let (k, other, within, at, alike) =
      Any-dedup (on_texts_equal vec_items) sorted one (Contains-permutation found sorted one moved here) in
      let same = same_bytes one.items other.items alike in
      rw (sym same ∙ is) at (to_map vec_items kept other (k, within, at))

  none_added : (name : List ℕ) → Contains (map vec_items kept) name → Contains (map vec_items found) name
  none_added name there =
      let (one, here, is) = in_map vec_items kept name there in
      let before = Contains-from_dedup (on vec_items (pointwise nat_eq)) sorted one here in
      rw is at (to_map vec_items found one
      (Contains-permutation sorted found one (IsPermutation-sym found sorted moved) before))

pub all_names : (known read : Option (List ℕ)) (found sorted left : List Name) → read ≡ known
    → IfSome read (λ listing. map vec_items found ≡ names_in listing) → IsPermutation found sorted
    → left ≡ dedup (on vec_items (pointwise nat_eq)) sorted
    → IfSome known (λ listing. HasSameNames (names_in listing) (map vec_items left))
all_names None read found sorted left same are moved is = tt
all_names (Some listing) read found sorted left same are moved is =
    let listed = rw same at are in
    rw (← listed, is) (record { keeps = none_lost found sorted moved; adds_none = none_added found sorted moved })

-- nothing is put before the bytes of a reader whose buffer is empty
pub prepended_none : (known : Option (List ℕ)) → prepend_known [] known ≡ known
prepended_none None = refl
prepended_none (Some bytes) = refl
