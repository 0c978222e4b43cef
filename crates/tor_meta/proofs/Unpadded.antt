-- The files of one version as entries: no padding stands among them, so their lengths say all.
use Rattle.std.proofs.Common.{◌≡◌, ◌≢◌, ◌⊎◌, inl, inr, ℕ, ◌≤◌, false, cond, List, [], ◌∷◌, map, sum, refl, ap}
use Rattle.std.proofs.Common.{sym, subst, ◌∙◌}
use Rattle.std.proofs.lemmas.List.Sums.{sum-map}
use Rattle.std.proofs.lemmas.Simd.{map-map}
use Rattle.tor_meta.specs.declared.head.Head.{Head}
use Rattle.tor_plan.specs.Entries.{entries_length}
use Rattle.tor_plan.specs.EntryList.{has_padding, IsEntryList}
use Rattle.tor_spec.specs.Settings.{is_aligned}
use Rattle.tor_tree.specs.FileList.{lengths_of}
use Rattle.tor_tree.specs.declared.kinds.Kind.{Kind}
use Rattle.tor_tree.specs.declared.kinds.Kind.TheVariants.{V1, V2, Hybrid}
use Rattle.tor_tree.specs.declared.lists.TheConstants.{MAX_TOTAL}
use Rattle.tor_v1.specs.Entries.{file_entry, v1_entries}
use Rattle.tor_v1.specs.declared.entry.Entry.{Entry}
use Rattle.tor_v1.specs.declared.layout.Layout.TheVariants.{Joined, Aligned, AlignedTail}
use Rattle.tor_meta.proofs.SourceSums.{entries_for}

abbrev Files : Type 0
Files = List (List (List ℕ) × ℕ)

pub one_version : (kind : Kind) → (kind ≡ V1) ⊎ (kind ≡ V2) → kind ≢ Hybrid
one_version V1 is = λ e. cc
one_version V2 is = λ e. cc
one_version Hybrid (inl is) = λ e. cc
one_version Hybrid (inr is) = λ e. cc

files_unpadded : (files : Files) → has_padding (map file_entry files) ≡ false
files_unpadded [] = refl
files_unpadded (file ∷ files) = files_unpadded files

total_of_files : (files : Files) → sum (lengths_of files) ≡ entries_length (map file_entry files)
total_of_files files =
    ap sum (sym (map-map (λ (entry : Entry). entry.length) file_entry files))
    ∙ sum-map (λ (entry : Entry). entry.length) (map file_entry files)

module _ (head : Head) (files : Files) (is : (head.kind ≡ V1) ⊎ (head.kind ≡ V2)) where
  files_alone : entries_for head files ≡ map file_entry files
  files_alone = by_kind head.kind (one_version head.kind is) where
    by_kind : (kind : Kind) → kind ≢ Hybrid
        → v1_entries (cond (is_aligned kind head.single) (cond head.tail AlignedTail Aligned) Joined) head.piece_length
        files ≡ map file_entry files
    by_kind V1 other = refl
    by_kind V2 other = refl
    by_kind Hybrid other = absurd (other refl)

  pub unpadded : has_padding (entries_for head files) ≡ false
  unpadded = ap has_padding files_alone ∙ files_unpadded files

  pub few_bytes : IsEntryList head.kind head.piece_length (entries_for head files) → sum (lengths_of files) ≤ MAX_TOTAL
  few_bytes list =
      subst (λ n. n ≤ MAX_TOTAL) (ap entries_length files_alone ∙ sym (total_of_files files)) list.total
