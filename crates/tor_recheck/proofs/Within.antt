-- Pieces that are found right, or hold, lie within the lengths by which they were there.
use Rattle.tor_recheck.proofs.Names.{◌≡◌, ℕ, zero, suc, Bool, true, false, List, [], ◌∷◌, length, map, get_or, Option}
use Rattle.tor_recheck.proofs.Names.{None, Some, refl, ap, arith, sym, ◌∙◌, inl, inr, cases_lt, false≢true, get_or-map}
use Rattle.tor_recheck.proofs.Names.{get_or-map-range_with_len, get_or_past, length-map-range_with_len, range_with_len}
use Rattle.tor_recheck.proofs.Names.{cases_Bool, cond-false, cond-true, is_some, PieceHash, View, empty_unit}
use Rattle.tor_recheck.proofs.Names.{pieces_of, has_v2, HaveHashesOf, AreWithin, is_within, all_held, all_judged}
use Rattle.tor_recheck.proofs.Names.{all_merkle_judged, is_found, is_merkle_found, judged, merkle_judged, subst}
use Rattle.tor_recheck.proofs.Names.{AreAmong, and_parts, is_told, PlanUnit}
use Rattle.tor_engine.specs.Readable.{HasHashWithin}
use Rattle.tor_sums.specs.steps.Each.{SumUpEach}

-- past the end there is no bit that is set
set_at : {A : Type 0} (f : A → Bool) (xs : List A) (k : ℕ) (d : A) → get_or (map f xs) k false ≡ true
    → f (get_or xs k d) ≡ true
set_at f [] zero d is = absurd (false≢true is)
set_at f [] (suc k) d is = absurd (false≢true is)
set_at f (x ∷ xs) zero d is = is
set_at f (x ∷ xs) (suc k) d is = set_at f xs k d is

set_in_range : (f : ℕ → Bool) (n k : ℕ) → get_or (map f (range_with_len 0 n)) k false ≡ true → f k ≡ true
set_in_range f n k is = elim (cases_lt k n) [
  | inl lt ↦ sym (get_or-map-range_with_len f 0 n k k false lt (omega arith)) ∙ is
  | inr ge ↦ absurd (false≢true (sym (get_or_past (map f (range_with_len 0 n)) k false
      (omega (arith, ge, length-map-range_with_len f 0 n))) ∙ is))
]

found_is_some : (hash : Option PieceHash) (sum root : List ℕ) → is_found hash sum root ≡ true → is_some hash ≡ true
found_is_some None sum root is = is
found_is_some (Some hash) sum root is = refl

merkle_is_some : (hash : Option PieceHash) (root : List ℕ) → is_merkle_found hash root ≡ true → is_some hash ≡ true
merkle_is_some None root is = is
merkle_is_some (Some hash) root is = refl

-- what has both hashes has the Merkle hash
found_is_merkle : (hash : Option PieceHash) (sum root : List ℕ) → is_found hash sum root ≡ true
    → is_merkle_found hash root ≡ true
found_is_merkle None sum root is = is
found_is_merkle (Some hash) sum root is = (and_parts (is_told hash.v1 sum) (is_told hash.v2 root) is).1

-- what one function says of a place in a range another says of it too
set_by_other : (f g : ℕ → Bool) (n k : ℕ) → (f k ≡ true → g k ≡ true)
    → get_or (map f (range_with_len 0 n)) k false ≡ true → get_or (map g (range_with_len 0 n)) k false ≡ true
set_by_other f g n k more is = elim (cases_lt k n) [
  | inl lt ↦ get_or-map-range_with_len g 0 n k k false lt (omega arith) ∙ more (set_in_range f n k is)
  | inr ge ↦ absurd (false≢true (sym (get_or_past (map f (range_with_len 0 n)) k false
      (omega (arith, ge, length-map-range_with_len f 0 n))) ∙ is))
]

-- what is right holds
pub right_are_held : (view : View) (hashes : List (Option PieceHash))
    → AreAmong (all_judged view hashes) (all_held view hashes)
right_are_held view hashes k is = elim (cases_Bool (has_v2 view.kind)) [
  | inl two ↦ subst (λ (bits : List Bool). get_or bits k false ≡ true)
      (sym (cond-true (has_v2 view.kind) (all_merkle_judged view hashes) (all_judged view hashes) two))
      (set_by_other (judged view hashes) (merkle_judged view hashes) (length hashes) k
      (found_is_merkle (get_or hashes k None) _ _) is)
  | inr none ↦ subst (λ (bits : List Bool). get_or bits k false ≡ true)
      (sym (cond-false (has_v2 view.kind) (all_merkle_judged view hashes) (all_judged view hashes) none)) is
]

-- a piece that has a hash lies within these lengths
abbrev pub SomeWithin : View → List (Option ℕ) → List (Option PieceHash) → Type 0
SomeWithin view told hashes =
    (k : ℕ) → is_some (get_or hashes k None) ≡ true → is_within told (get_or (pieces_of view) k empty_unit) ≡ true

pub some_within : (view : View) (told : List (Option ℕ)) (hashes : List (Option PieceHash))
    → HaveHashesOf told (pieces_of view) hashes → SomeWithin view told hashes
some_within view told hashes there k is =
    set_at (is_within told) (pieces_of view) k empty_unit
    (ap (λ bits. get_or bits k false) (sym there) ∙ get_or-map is_some hashes k None ∙ is)

pub each_within : (told : List (Option ℕ)) (pieces : List PlanUnit) (hashes : List (Option PieceHash))
    → SumUpEach (HasHashWithin told) pieces hashes → (k : ℕ) → is_some (get_or hashes k None) ≡ true
    → is_within told (get_or pieces k empty_unit) ≡ true
unfolding SumUpEach
each_within told [] [] each zero is = absurd (false≢true is)
each_within told [] [] each (suc k) is = absurd (false≢true is)
each_within told [] (hash ∷ hashes) each k is = absurd each
each_within told (piece ∷ pieces) [] each k is = absurd each
each_within told (piece ∷ pieces) (hash ∷ hashes) each zero is = each.0 is
each_within told (piece ∷ pieces) (hash ∷ hashes) each (suc k) is = each_within told pieces hashes each.1 k is

module _ (view : View) (told : List (Option ℕ)) (hashes : List (Option PieceHash))
    (within : SomeWithin view told hashes) where
  pub judged_within : AreWithin view told (all_judged view hashes)
  judged_within k is =
      within k (found_is_some (get_or hashes k None) _ _ (set_in_range (judged view hashes) (length hashes) k is))

  merkle_within : AreWithin view told (all_merkle_judged view hashes)
  merkle_within k is =
      within k (merkle_is_some (get_or hashes k None) _
      (set_in_range (merkle_judged view hashes) (length hashes) k is))

  pub held_within : AreWithin view told (all_held view hashes)
  held_within = elim (cases_Bool (has_v2 view.kind)) [
    | inl two ↦ subst (λ (bits : List Bool). AreWithin view told bits)
        (sym (cond-true (has_v2 view.kind) (all_merkle_judged view hashes) (all_judged view hashes) two)) merkle_within
    | inr none ↦ subst (λ (bits : List Bool). AreWithin view told bits)
        (sym (cond-false (has_v2 view.kind) (all_merkle_judged view hashes) (all_judged view hashes) none))
        judged_within
  ]
