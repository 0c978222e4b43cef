-- The entries of a v1 side whose filled files begin at pieces have their padding where a hybrid torrent has it.
use Rattle.tor_view.proofs.Names.{◌≡◌, ℕ, true, false, ◌||◌, List, [], ◌∷◌, ◌++◌, arith, refl, ap₂, ◌∙◌, sym, subst}
use Rattle.tor_view.proofs.Names.{append_assoc, inl, inr, list_any, cases_Bool, ArePadded, IsLaidOut, IsPaddedTo}
use Rattle.tor_view.proofs.Names.{ListedFile, has_wrong_tail, is_filled, Hybrid}
use Rattle.tor_view.proofs.ListedFiles.{entries_of, filled_as_entry, gap, size_of_entry}
use Rattle.tor_view.proofs.ListedGaps.{after_filled, has_filled, IsAligned, no_more_filled, others_aligned}
use Rattle.tor_view.proofs.ListedGaps.{to_next_filled}
use Rattle.tor_view.proofs.ListedTails.{behind_last, none_at_all}
use Rattle.tor_plan.specs.EntryList as entry_list

filled_entries : (files : List ListedFile) → list_any entry_list.is_filled (entries_of files) ≡ has_filled files
filled_entries [] = refl
filled_entries (file ∷ files) = ap₂ (λ a b. a || b) (filled_as_entry file) (filled_entries files)

module _ (p : ℕ) where
  padded_to : (earlier : List ListedFile) (file : ListedFile) (files : List ListedFile)
      → IsAligned p earlier (file ∷ files) → has_wrong_tail p (earlier ++ file ∷ files) ≡ false
      → is_filled file ≡ true → IsPaddedTo p file.size (entries_of files)
  padded_to earlier file files aligned right filled = elim (cases_Bool (has_filled files)) [
    | inl some ↦ inl (after_filled p earlier file files aligned filled some)
    | inr none ↦
        let all = no_more_filled files none in
        elim (behind_last p earlier file files right filled none) [
          | inl nothing ↦ inr (filled_entries files ∙ none, all ∙ nothing)
          | inr lack ↦ inl (all ∙ lack)
        ]
  ]

  are_padded : (earlier files : List ListedFile) → IsAligned p earlier files
      → has_wrong_tail p (earlier ++ files) ≡ false → ArePadded p (entries_of files)
  unfolding ArePadded
  are_padded earlier [] aligned right = tt
  are_padded earlier (file ∷ files) aligned right = (
    (λ filled.
        subst (λ (m : ℕ). IsPaddedTo p m (entries_of files)) (sym (size_of_entry file))
        (padded_to earlier file files aligned right (sym (filled_as_entry file) ∙ filled))),
    are_padded (earlier ++ file ∷ []) files (others_aligned p earlier file files aligned)
        (subst (λ (all : List ListedFile). has_wrong_tail p all ≡ false)
        (sym (append_assoc earlier (file ∷ []) files)) right),
  )

  none_before : (files : List ListedFile) → IsAligned p [] files → has_wrong_tail p files ≡ false → gap files ≡ 0
  none_before files aligned right = elim (cases_Bool (has_filled files)) [
    | inl some ↦ omega (arith, to_next_filled p [] files aligned some)
    | inr none ↦ no_more_filled files none ∙ none_at_all p files right none
  ]

  pub laid_out : (files : List ListedFile) → IsAligned p [] files → has_wrong_tail p files ≡ false
      → IsLaidOut Hybrid p (entries_of files)
  unfolding IsLaidOut
  laid_out files aligned right = (none_before files aligned right, are_padded [] files aligned right)
