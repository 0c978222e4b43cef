-- Where each filled file of a v1 side begins at a piece of its own, the padding before the next one is known.
use Rattle.tor_view.proofs.Names.{◌≡◌, ℕ, ◌+◌, eqb, Bool, true, false, not, ◌&&◌, ◌||◌, List, [], ◌∷◌, ◌++◌, arith}
use Rattle.tor_view.proofs.Names.{refl, ap, ◌∙◌, sym, inl, inr, cases_Bool, eqb-true, not-false, or_parts}
use Rattle.tor_view.proofs.Names.{sum_by-cons, list_any, padding_before_next, joined_size, ListedFile, aligned_after}
use Rattle.tor_view.proofs.Names.{is_filled, is_misaligned_after, padding_length}
use Rattle.tor_view.proofs.ListedFiles.{aligned_with_filled, aligned_with_other, gap, gap_at_filled, gap_at_other}
use Rattle.tor_view.proofs.ListedFiles.{joined_more, size_of}

-- some file is filled
abbrev pub has_filled : List ListedFile → Bool
has_filled files = list_any is_filled files

-- ---- up to the next filled file

pub no_more_filled : (files : List ListedFile) → has_filled files ≡ false → gap files ≡ joined_size files
unfolding padding_before_next
no_more_filled [] none = refl
no_more_filled (file ∷ files) none =
    let parts = or_parts (is_filled file) (has_filled files) none in
    omega (arith, gap_at_other file files parts.0, no_more_filled files parts.1, sum_by-cons size_of file files)

begins_at : (filled : Bool) (m n : ℕ) → filled ≡ true → (filled && not (eqb m n)) ≡ false → m ≡ n
begins_at true m n filled aligned = eqb-true m n (not-false (eqb m n) aligned)
begins_at false m n filled aligned = cc

module _ (p : ℕ) where
  abbrev pub IsAligned : List ListedFile → List ListedFile → Type 0
  IsAligned earlier files = is_misaligned_after p earlier files ≡ false

  -- where a list begins with a file: that file begins where it is to, and so do the others
  first_begins : (earlier : List ListedFile) (file : ListedFile) (files : List ListedFile)
      → IsAligned earlier (file ∷ files) → is_filled file ≡ true → joined_size earlier ≡ aligned_after p earlier
  first_begins earlier file files aligned filled =
      begins_at (is_filled file) (joined_size earlier) (aligned_after p earlier) filled
      (or_parts (is_filled file && not (eqb (joined_size earlier) (aligned_after p earlier)))
      (is_misaligned_after p (earlier ++ file ∷ []) files) aligned).0

  pub others_aligned : (earlier : List ListedFile) (file : ListedFile) (files : List ListedFile)
      → IsAligned earlier (file ∷ files) → IsAligned (earlier ++ file ∷ []) files
  others_aligned earlier file files aligned =
      (or_parts (is_filled file && not (eqb (joined_size earlier) (aligned_after p earlier)))
      (is_misaligned_after p (earlier ++ file ∷ []) files) aligned).1

  pub to_next_filled : (earlier files : List ListedFile) → IsAligned earlier files → has_filled files ≡ true
      → joined_size earlier + gap files ≡ aligned_after p earlier
  to_next_filled earlier [] aligned some = cc
  to_next_filled earlier (file ∷ files) aligned some = elim (cases_Bool (is_filled file)) [
    | inl filled ↦
        omega (arith, gap_at_filled file files filled, first_begins earlier file files aligned filled)
    | inr other ↦
        let some_later : has_filled files ≡ true = sym (ap (λ b. b || has_filled files) other) ∙ some in
        let next =
        to_next_filled (earlier ++ file ∷ []) files (others_aligned earlier file files aligned) some_later in
        omega (
          arith,
          next,
          gap_at_other file files other,
          joined_more earlier file,
          aligned_with_other p earlier file other,
        )
  ]

  pub after_filled : (earlier : List ListedFile) (file : ListedFile) (files : List ListedFile)
      → IsAligned earlier (file ∷ files) → is_filled file ≡ true → has_filled files ≡ true
      → gap files ≡ padding_length p file.size
  after_filled earlier file files aligned filled some =
      let begins = first_begins earlier file files aligned filled in
      let next = to_next_filled (earlier ++ file ∷ []) files (others_aligned earlier file files aligned) some in
      omega (arith, begins, next, joined_more earlier file, aligned_with_filled p earlier file filled)
