-- The Merkle hashes that are left of files.
use Rattle.tor_recheck.proofs.Names.{◌≡◌, ℕ, ◌+◌, ◌-◌, ◌<◌, ◌≤◌, List, [], ◌∷◌, ◌++◌, length, drop, get_or, arith}
use Rattle.tor_recheck.proofs.Names.{ap, ap₂, sym, ◌∙◌, zero-add, drop-append-add, drop_of_length-le, flat_map}
use Rattle.tor_recheck.proofs.Names.{get_or-map-range_with_len, get_or_append_left, length-map-range_with_len}
use Rattle.tor_recheck.proofs.Names.{hashes_of_file, pieces_in, told_hash, FileView}
use Rattle.tor_view.proofs.FromIndex.{first_of}

-- those of files after the first so many of them
abbrev pub hashes_from : ℕ → ℕ → List FileView → List (List ℕ)
hashes_from p passed files = drop passed (flat_map (hashes_of_file p) files)

pub none_left : (p passed : ℕ) (files : List FileView) → length files ≡ 0 → hashes_from p passed files ≡ []
none_left p passed [] none = drop_of_length-le [] (omega arith)
none_left p passed (told ∷ others) none = absurd (omega (arith, none))

-- of a first file that has so many pieces
module _ (p : ℕ) (files others : List FileView) (told : FileView) (is : files ≡ told ∷ others) (count : ℕ)
    (counted : count ≡ pieces_in p told.file.length) where
  -- its hashes are so many
  own_count : length (hashes_of_file p told) ≡ count
  own_count = length-map-range_with_len (told_hash p told) 0 (pieces_in p told.file.length) ∙ sym counted

  -- where none of its pieces is left, those of the others are
  pub left_after : (passed : ℕ) → count ≤ passed → hashes_from p (passed - count) others ≡ hashes_from p passed files
  left_after passed most =
      let own = hashes_of_file p told in
      let both : length own + (passed - count) ≡ passed = omega (arith, most, own_count) in
      sym (drop-append-add own (flat_map (hashes_of_file p) others) (passed - count))
      ∙ ap₂ (λ k xs. hashes_from p k xs) both (sym is)

  -- the first that is left is of its piece at that index
  pub next_left : (passed : ℕ) → passed < count → told_hash p told passed ≡ get_or (hashes_from p passed files) 0 []
  next_left passed some =
      let own = hashes_of_file p told in
      let later = flat_map (hashes_of_file p) others in
      let n = pieces_in p told.file.length in
      let within : passed < n = omega (arith, some, counted) in
      sym (ap (λ xs. get_or (hashes_from p passed xs) 0 []) is ∙ first_of (own ++ later) passed []
      ∙ get_or_append_left own later [] passed (omega (arith, some, own_count))
      ∙ get_or-map-range_with_len (told_hash p told) 0 n passed passed [] within (zero-add passed))
