-- Files of a torrent that has no v1 side, as entries: they have no padding, and as many bytes.
use Rattle.std.proofs.lemmas.List.Sums.{sum-map}
use Rattle.std.proofs.lemmas.Simd.{map-map}
use Rattle.tor_recheck.proofs.Names.{◌≡◌, ◌≢◌, ℕ, false, List, [], ◌∷◌, map, sum, refl, ap, ◌∙◌, sym, cond-false, Entry}
use Rattle.tor_recheck.proofs.Names.{FileView, View, Kind, Hybrid, entries_length, entries_to_cut, has_padding, has_v1}
use Rattle.tor_view.proofs.EntryBounds.{told_entry}

abbrev length_told : FileView → ℕ
length_told told = told.file.length

told_unpadded : (files : List FileView) → has_padding (map told_entry files) ≡ false
told_unpadded [] = refl
told_unpadded (told ∷ files) = told_unpadded files

total_told : (files : List FileView) → sum (map length_told files) ≡ entries_length (map told_entry files)
total_told files =
    ap sum (sym (map-map (λ (entry : Entry). entry.length) told_entry files))
    ∙ sum-map (λ (entry : Entry). entry.length) (map told_entry files)

module _ (view : View) (no_v1 : has_v1 view.kind ≡ false) where
  files_alone : entries_to_cut view ≡ map told_entry view.files
  files_alone = cond-false _ _ _ no_v1

  pub unpadded_to_cut : has_padding (entries_to_cut view) ≡ false
  unpadded_to_cut = ap has_padding files_alone ∙ told_unpadded view.files

  pub total_to_cut : sum (map length_told view.files) ≡ entries_length (entries_to_cut view)
  total_to_cut = total_told view.files ∙ ap entries_length (sym files_alone)

-- a kind without a v1 side is not that of both
pub no_hybrid : (kind : Kind) → has_v1 kind ≡ false → kind ≢ Hybrid
no_hybrid kind none = λ is. cc
