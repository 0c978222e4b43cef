-- Bytes that are a torrent are refused for nothing but want of memory.
use Rattle.std.proofs.Common.{◌≡◌, ◌∙◌, refl, sym, ap, ℕ, List, [], ◌++◌, None, Some}
use Rattle.tor_bencode.proofs.ProvedLaws.{no_spelling_begins_another, tree_has_no_fault}
use Rattle.tor_bencode.specs.Spelling.{spelling}
use Rattle.tor_check.specs.Valid.{IsRefused, IsRefusedFor}
use Rattle.tor_check.specs.declared.refusal.Refusal.{Refusal}
use Rattle.tor_check.specs.declared.refusal.Refusal.TheVariants as refusals
use Rattle.tor_spec.specs.valid.Conditions.{IsValid, refusal_of}

some_is_none : {A : Type 0} (x : A) → Some x ≡ None → ⊥
some_is_none x e = absurd cc

module _ (bytes : List ℕ) (valid : IsValid bytes) where
  one_tree : (refusal : Refusal) → IsRefused bytes refusal → ⊥
  one_tree refusal why =
      let (root, torrent) = valid in
      let text : spelling root ++ [] ≡ spelling why.root ++ [] =
      ap (λ (xs : List ℕ). xs ++ []) (sym torrent.spelled ∙ why.spelled) in
      let same = (no_spelling_begins_another root why.root [] [] torrent.lawful why.lawful text).0 in
      some_is_none why.condition (sym why.first ∙ ap refusal_of (sym same) ∙ torrent.accepted)

  pub memory_alone : (refusal : Refusal) → IsRefusedFor bytes refusal → refusal ≡ refusals.Memory
  memory_alone (refusals.Bencode fault offset) why =
      let (root, torrent) = valid in
      absurd (tree_has_no_fault bytes fault offset (root, torrent.lawful, torrent.spelled) why)
  memory_alone refusals.RootShape why = absurd (one_tree _ why)
  memory_alone refusals.InfoShape why = absurd (one_tree _ why)
  memory_alone refusals.MetaVersion why = absurd (one_tree _ why)
  memory_alone refusals.PieceLength why = absurd (one_tree _ why)
  memory_alone refusals.Name why = absurd (one_tree _ why)
  memory_alone refusals.LengthAndFiles why = absurd (one_tree _ why)
  memory_alone refusals.FileShape why = absurd (one_tree _ why)
  memory_alone refusals.FileLength why = absurd (one_tree _ why)
  memory_alone refusals.Duplicate why = absurd (one_tree _ why)
  memory_alone refusals.FileAndFolder why = absurd (one_tree _ why)
  memory_alone refusals.NoFiles why = absurd (one_tree _ why)
  memory_alone refusals.TooLarge why = absurd (one_tree _ why)
  memory_alone refusals.Symlink why = absurd (one_tree _ why)
  memory_alone refusals.PiecesLength why = absurd (one_tree _ why)
  memory_alone refusals.MixedNode why = absurd (one_tree _ why)
  memory_alone refusals.RootHash why = absurd (one_tree _ why)
  memory_alone refusals.LayersAbsent why = absurd (one_tree _ why)
  memory_alone refusals.LayerAbsent why = absurd (one_tree _ why)
  memory_alone refusals.LayerLength why = absurd (one_tree _ why)
  memory_alone refusals.LayerRoot why = absurd (one_tree _ why)
  memory_alone refusals.FilesDiffer why = absurd (one_tree _ why)
  memory_alone refusals.Alignment why = absurd (one_tree _ why)
  memory_alone refusals.AttrDiffer why = absurd (one_tree _ why)
  memory_alone refusals.Memory why = refl
