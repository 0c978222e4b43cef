-- Lengths that were told beside those that were planned, from a file on.
use Rattle.std.proofs.Common.{◌≡◌, ◌≢◌, ◌<◌, ◌≤◌, ℕ, zero, suc, ◌+◌, List, [], ◌∷◌, length, drop, get_or, None, Some}
use Rattle.std.proofs.Common.{◌==◌, Bool, true, false, cond, true≢false, refl, ap₂, subst, sym, ◌∙◌, arith}
use Rattle.std.proofs.lemmas.Bool.{eq-eqb, eqb-true, ne_eqb}
use Rattle.std.proofs.lemmas.List.{drop_all, drop_more}
use Rattle.tor_sums.specs.Fault.{change_from}

module _ (told planned : List ℕ) (file : ℕ) where
  pub change_differs : file < length told → file < length planned →
      (get_or told file 0 ≡ get_or planned file 0 → ⊥) →
      change_from file (drop file told) (drop file planned) ≡ Some file
  unfolding change_from
  change_differs one other differ =
      rw (drop_more told file 0 one) (rw (drop_more planned file 0 other)
      (rw (ne_eqb (get_or told file 0) (get_or planned file 0) differ) refl))

  pub change_next : file < length told → file < length planned →
      get_or told file 0 ≡ get_or planned file 0 →
      change_from file (drop file told) (drop file planned)
      ≡ change_from (file + 1) (drop (file + 1) told) (drop (file + 1) planned)
  unfolding change_from
  change_next one other same =
      rw (drop_more told file 0 one) (rw (drop_more planned file 0 other)
      (rw (eq-eqb (get_or told file 0) (get_or planned file 0) same) refl))

  pub change_short : file < length told → length planned ≤ file →
      change_from file (drop file told) (drop file planned) ≡ None
  unfolding change_from
  change_short one other = rw (drop_more told file 0 one) (rw (drop_all file planned other) refl)

  pub change_ends : length told ≤ file → change_from file (drop file told) (drop file planned) ≡ None
  unfolding change_from
  change_ends end = rw (drop_all file told end) refl

-- the file that is found is one of both lists, which differ there
abbrev Differ : ℕ → List ℕ → List ℕ → ℕ → Type 0
Differ first told planned file =
    (k : ℕ) × (file ≡ first + k) × (k < length told) × (k < length planned) × (get_or told k 0 ≢ get_or planned k 0)

differ_next : (first : ℕ) (told planned : List ℕ) (one other file : ℕ) → Differ (first + 1) told planned file
    → Differ first (one ∷ told) (other ∷ planned) file
differ_next first told planned one other file (k, at, short, less, differ) =
    (suc k, omega (arith, at), omega (arith, short), omega (arith, less), differ)

differ_from : (first : ℕ) (told planned : List ℕ) (file : ℕ) → change_from first told planned ≡ Some file
    → Differ first told planned file
unfolding change_from
differ_from first [] planned file is = let none : None ≡ Some file = is in cc
differ_from first (one ∷ told) [] file is = let none : None ≡ Some file = is in cc
differ_from first (one ∷ told) (other ∷ planned) file is =
    either (one == other) refl (differ_from (first + 1) told planned file) is
  where
    either : (b : Bool) → (one == other) ≡ b
        → (change_from (first + 1) told planned ≡ Some file → Differ (first + 1) told planned file)
        → cond b (change_from (first + 1) told planned) (Some first) ≡ Some file
        → Differ first (one ∷ told) (other ∷ planned) file
    either true same later is = differ_next first told planned one other file (later is)
    either false other_one later here =
        let same : first ≡ file = cc in (
          zero,
          omega (arith, same),
          omega arith,
          omega arith,
          λ equal. true≢false (sym (eq-eqb one other equal) ∙ other_one),
        )

pub change_told : (told planned : List ℕ) (file : ℕ) → change_from 0 told planned ≡ Some file
    → (file < length told) × (file < length planned) × (get_or told file 0 ≢ get_or planned file 0)
change_told told planned file is =
    let found = differ_from 0 told planned file is in
    let here : found.0 ≡ file = omega (arith, found.1) in (
      omega (arith, here, found.2),
      omega (arith, here, found.3),
      subst (λ (k : ℕ). get_or told k 0 ≢ get_or planned k 0) here found.4,
    )

-- where none is found, the lists are the same
pub none_changed : (first : ℕ) (told planned : List ℕ) → length told ≡ length planned
    → change_from first told planned ≡ None → told ≡ planned
unfolding change_from
none_changed first [] [] long none = refl
none_changed first [] (other ∷ planned) long none = absurd (omega (arith, long))
none_changed first (one ∷ told) [] long none = absurd (omega (arith, long))
none_changed first (one ∷ told) (other ∷ planned) long none =
    either (one == other) refl (none_changed (first + 1) told planned (omega (arith, long))) none
  where
    either : (b : Bool) → (one == other) ≡ b → (change_from (first + 1) told planned ≡ None → told ≡ planned)
        → cond b (change_from (first + 1) told planned) (Some first) ≡ None → one ∷ told ≡ other ∷ planned
    either true same later none = ap₂ (λ x xs. x ∷ xs) (eqb-true one other same) (later none)
    either false differ later some = cc
