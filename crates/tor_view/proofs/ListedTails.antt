-- The padding behind the last filled file of a v1 side, where it is as it is to be.
use Rattle.tor_view.proofs.Names.{◌≡◌, ℕ, ◌+◌, eqb, Bool, true, false, not, ◌||◌, List, [], ◌∷◌, ◌++◌}
use Rattle.tor_view.proofs.Names.{Option, None, Some, arith, refl, ap, ◌∙◌, sym, inl, inr, ◌⊎◌, reverse}
use Rattle.tor_view.proofs.Names.{append_assoc, unwrap_or, find, option_map, cond-false}
use Rattle.tor_view.proofs.Names.{cond-true, eqb-true, not-false, or_parts, reverse-append, IsPermutation-reverse}
use Rattle.tor_view.proofs.Names.{list_any-IsPermutation, sum_by-IsPermutation, sum_by-cons, joined_size, ListedFile}
use Rattle.tor_view.proofs.Names.{has_wrong_tail, is_filled, last_size, size_before, tail_size, padding_length}
use Rattle.tor_view.proofs.Names.{no_padding}
use Rattle.tor_view.proofs.ListedFiles.{size_of}
use Rattle.tor_view.proofs.ListedGaps.{has_filled}

-- ---- files that are not filled, and then a filled one

size_before_none : (files : List ListedFile) → has_filled files ≡ false → size_before files ≡ joined_size files
size_before_none [] none = refl
size_before_none (file ∷ files) none =
    let parts = or_parts (is_filled file) (has_filled files) none in
    cond-false (is_filled file) 0 (size_before files + file.size) parts.0
    ∙ (let e : size_before files + file.size ≡ joined_size (file ∷ files) =
    omega (arith, size_before_none files parts.1, sum_by-cons size_of file files) in e)

size_before_filled : (files : List ListedFile) (file : ListedFile) (others : List ListedFile)
    → has_filled files ≡ false → is_filled file ≡ true → size_before (files ++ file ∷ others) ≡ joined_size files
size_before_filled [] file others none filled = cond-true (is_filled file) 0 (size_before others + file.size) filled
size_before_filled (one ∷ files) file others none filled =
    let parts = or_parts (is_filled one) (has_filled files) none in
    let rest = size_before_filled files file others parts.1 filled in
    cond-false (is_filled one) 0 (size_before (files ++ file ∷ others) + one.size) parts.0
    ∙ (let e : size_before (files ++ file ∷ others) + one.size ≡ joined_size (one ∷ files) =
    omega (arith, rest, sum_by-cons size_of one files) in e)

found_none : (files : List ListedFile) → has_filled files ≡ false → find is_filled files ≡ None
found_none [] none = refl
found_none (file ∷ files) none =
    let parts = or_parts (is_filled file) (has_filled files) none in
    cond-false (is_filled file) (Some file) (find is_filled files) parts.0 ∙ found_none files parts.1

found_filled : (files : List ListedFile) (file : ListedFile) (others : List ListedFile)
    → has_filled files ≡ false → is_filled file ≡ true → find is_filled (files ++ file ∷ others) ≡ Some file
found_filled [] file others none filled = cond-true (is_filled file) (Some file) (find is_filled others) filled
found_filled (one ∷ files) file others none filled =
    let parts = or_parts (is_filled one) (has_filled files) none in
    cond-false (is_filled one) (Some one) (find is_filled (files ++ file ∷ others)) parts.0
    ∙ found_filled files file others parts.1 filled

-- ---- the same from the end

none_reversed : (files : List ListedFile) → has_filled files ≡ false → has_filled (reverse files) ≡ false
none_reversed files none =
    sym (list_any-IsPermutation is_filled files (reverse files) (IsPermutation-reverse files)) ∙ none

joined_reversed : (files : List ListedFile) → joined_size (reverse files) ≡ joined_size files
joined_reversed files = sum_by-IsPermutation size_of files (reverse files) (IsPermutation-reverse files)

reversed_at : (earlier : List ListedFile) (file : ListedFile) (files : List ListedFile)
    → reverse (earlier ++ file ∷ files) ≡ reverse files ++ (file ∷ reverse earlier)
reversed_at earlier file files =
    reverse-append earlier (file ∷ files)
    ∙ ap (λ xs. xs ++ reverse earlier) (reverse-append (file ∷ []) files)
    ∙ append_assoc (reverse files) (file ∷ []) (reverse earlier)

abbrev size_found : Option ListedFile → ℕ
size_found found = unwrap_or (option_map size_of found) 0

-- ---- the padding at the end

one_of : (n m : ℕ) → not (eqb n 0 || eqb n m) ≡ false → (n ≡ 0) ⊎ (n ≡ m)
one_of n m right = by (eqb n 0) refl (not-false (eqb n 0 || eqb n m) right) where
  by : (b : Bool) → eqb n 0 ≡ b → (b || eqb n m) ≡ true → (n ≡ 0) ⊎ (n ≡ m)
  by true is some = inl (eqb-true n 0 is)
  by false is some = inr (eqb-true n m some)

module _ (p : ℕ) where
  -- without a filled file there is no byte
  pub none_at_all : (files : List ListedFile) → has_wrong_tail p files ≡ false → has_filled files ≡ false
      → joined_size files ≡ 0
  none_at_all files right none =
      let back = none_reversed files none in
      let tail : tail_size files ≡ joined_size files =
      size_before_none (reverse files) back ∙ joined_reversed files in
      let last : last_size files ≡ 0 = ap size_found (found_none (reverse files) back) in
      let lack : padding_length p (last_size files) ≡ 0 = ap (padding_length p) last ∙ no_padding p in
      elim (one_of (tail_size files) (padding_length p (last_size files)) right) [
        | inl e ↦ sym tail ∙ e
        | inr e ↦ sym tail ∙ e ∙ lack
      ]

  -- behind the last filled file there is what it lacks, or nothing
  pub behind_last : (earlier : List ListedFile) (file : ListedFile) (files : List ListedFile)
      → has_wrong_tail p (earlier ++ file ∷ files) ≡ false → is_filled file ≡ true → has_filled files ≡ false
      → (joined_size files ≡ 0) ⊎ (joined_size files ≡ padding_length p file.size)
  behind_last earlier file files right filled none =
      let all = earlier ++ file ∷ files in
      let back = none_reversed files none in
      let turned = reversed_at earlier file files in
      let tail : tail_size all ≡ joined_size files =
      ap size_before turned ∙ size_before_filled (reverse files) file (reverse earlier) back filled
      ∙ joined_reversed files in
      let last : last_size all ≡ file.size =
      ap (λ xs. size_found (find is_filled xs)) turned
      ∙ ap size_found (found_filled (reverse files) file (reverse earlier) back filled) in
      elim (one_of (tail_size all) (padding_length p (last_size all)) right) [
        | inl e ↦ inl (sym tail ∙ e)
        | inr e ↦ inr (sym tail ∙ e ∙ ap (padding_length p) last)
      ]
