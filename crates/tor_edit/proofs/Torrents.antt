-- A torrent with another tracker is a torrent, and describes the same.
use Rattle.tor_edit.proofs.Names.{◌≡◌, ◌∙◌, ◌||◌, ◌&&◌, ℕ, Bool, List, [], ◌∷◌, Option, Some, refl, ap, ap₂, codes}
use Rattle.tor_edit.proofs.Names.{not, cond, find, unwrap_or, Data, dictionary, no_pairs, value_of, spelling}
use Rattle.tor_edit.proofs.Names.{is_dictionary, has_v2, Condition, IsTorrentOf, conditions, holds, of_list, of_tree}
use Rattle.tor_edit.proofs.Names.{of_both, refusal_of, info_of, kind_of, piece_length_of, tree_files, layers_of, View}
use Rattle.tor_edit.proofs.Names.{view_of, tracker_edited, list_any, MAX_NESTING, TreeFile, FileView, is_long}
use Rattle.tor_edit.proofs.Names.{layer_of, has_v1, name_of, is_private, files_of_both, file_of_list, listed_files}
use Rattle.tor_edit.proofs.Names.{entry_of_file, side_files, text_of, part, tree_piece_count, side_piece_count, map}
use Rattle.tor_edit.proofs.Names.{if◌then◌else◌, IsValid, subst, sym}
use Rattle.tor_edit.proofs.Lawful.{edited_is_lawful}
use Rattle.tor_edit.proofs.Values.{info_is_kept, layers_are_kept, still_a_dictionary}
use Rattle.tor_spec.specs.valid.Conditions as named
use Rattle.tor_spec.specs.valid.Heads as heads
use Rattle.tor_spec.specs.valid.ListSide as lists
use Rattle.tor_spec.specs.valid.TreeSide as trees
use Rattle.tor_spec.specs.valid.Layers as layers
use Rattle.tor_spec.specs.valid.SidesAgree as sides

-- what is found by tests that are the same
same_found : {X : Type 0} (p q : X → Bool) (xs : List X) → ((x : X) → p x ≡ q x) → find p xs ≡ find q xs
same_found p q [] same = refl
same_found p q (x ∷ xs) same = ap₂ (λ b rest. cond b (Some x) rest) (same x) (same_found p q xs same)

-- a file of the tree, with its layer
abbrev file_with : Data → Data → TreeFile → FileView
file_with info found file =
    record { file = file; layer = if is_long (piece_length_of info) file then layer_of found file else [] }

-- what is described by an `info` and by piece layers
abbrev view_with : Data → Data → ℕ × ℕ → View
view_with info found span =
    let v1 = has_v1 (kind_of info) in
    record {
      kind = kind_of info;
      name = name_of info;
      piece_length = piece_length_of info;
      is_private = is_private info;
      files =
          if has_v2 (kind_of info) then map (file_with info found) (files_of_both info)
          else map file_of_list (listed_files info);
      entries = if v1 then map entry_of_file (side_files info) else [];
      pieces = if v1 then text_of (part (codes "pieces") info) else [];
      info_span = span;
      piece_count = if has_v2 (kind_of info) then tree_piece_count info else side_piece_count info;
    }

-- roots with the same `info` and the same `piece layers`
module _ (r s : Data) (shape : is_dictionary r ≡ is_dictionary s)
    (infos : value_of (codes "info") r ≡ value_of (codes "info") s)
    (layered : value_of (codes "piece layers") r ≡ value_of (codes "piece layers") s) where
  same_info : info_of r ≡ info_of s
  same_info = ap (λ found. unwrap_or found (dictionary no_pairs)) infos

  same_layers : layers_of r ≡ layers_of s
  same_layers = ap (λ found. unwrap_or found (dictionary no_pairs)) layered

  same_view : view_of r ≡ record (view_of s) { info_span = (view_of r).info_span }
  same_view = ap₂ (λ info found. view_with info found (view_of r).info_span) same_info same_layers

  same_condition : (c : Condition) → holds r c ≡ holds s c
  same_condition named.RootShape = ap not shape
  same_condition named.InfoShape = ap heads.lacks_dictionary infos
  same_condition named.MetaVersion = ap heads.meta_version same_info
  same_condition named.PieceLength = ap heads.piece_length same_info
  same_condition named.Name = ap heads.name same_info
  same_condition named.LengthAndFiles = ap heads.length_and_files same_info
  same_condition named.FileShape =
      ap (λ info. of_list lists.list_shape info || of_tree trees.tree_shape info) same_info
  same_condition named.FileLength =
      ap (λ info. of_list lists.list_length info || of_tree trees.tree_length info) same_info
  same_condition named.Duplicate = ap (of_list lists.list_duplicate) same_info
  same_condition named.FileAndFolder = ap (of_list lists.list_file_and_folder) same_info
  same_condition named.NoFiles =
      ap (λ info. of_list lists.list_no_files info || of_tree trees.tree_no_files info) same_info
  same_condition named.TooLarge =
      ap (λ info. of_list lists.list_too_large info || of_tree trees.tree_too_large info) same_info
  same_condition named.Symlink =
      ap (λ info. of_list lists.list_symlink info || of_tree trees.tree_symlink info) same_info
  same_condition named.PiecesLength = ap (of_list lists.list_pieces) same_info
  same_condition named.MixedNode = ap (of_tree trees.tree_mixed) same_info
  same_condition named.RootHash = ap (of_tree trees.tree_root) same_info
  same_condition named.LayersAbsent =
      ap₂ (λ info found. has_v2 (kind_of info) && layers.lacks_layers (piece_length_of info) (tree_files info) found)
      same_info layered
  same_condition named.LayerAbsent =
      ap₂ (λ info found. has_v2 (kind_of info)
      && list_any (layers.lacks_layer (piece_length_of info) found) (tree_files info)) same_info same_layers
  same_condition named.LayerLength =
      ap₂ (λ info found. has_v2 (kind_of info)
      && list_any (layers.is_misshaped (piece_length_of info) found) (tree_files info)) same_info same_layers
  same_condition named.LayerRoot =
      ap₂ (λ info found. has_v2 (kind_of info)
      && list_any (layers.has_other_root (piece_length_of info) found) (tree_files info)) same_info same_layers
  same_condition named.FilesDiffer = ap (of_both sides.files_differ) same_info
  same_condition named.Alignment = ap (of_both sides.alignment) same_info
  same_condition named.AttrDiffer = ap (of_both sides.attr_differs) same_info

  same_refusal : refusal_of r ≡ refusal_of s
  same_refusal = same_found (holds r) (holds s) conditions same_condition

module _ (root : Data) (tracker : Option (List ℕ)) where
  abbrev edited : Data
  edited = tracker_edited root tracker

  pub still_a_torrent : (bytes : List ℕ) → IsTorrentOf root bytes → IsTorrentOf edited (spelling edited)
  still_a_torrent bytes valid = record {
    lawful = edited_is_lawful MAX_NESTING root tracker valid.lawful;
    spelled = refl;
    accepted =
        same_refusal edited root (still_a_dictionary root tracker) (info_is_kept root tracker)
        (layers_are_kept root tracker)
        ∙ valid.accepted;
  }

  pub view_is_kept : view_of edited ≡ record (view_of root) { info_span = (view_of edited).info_span }
  view_is_kept =
      same_view edited root (still_a_dictionary root tracker) (info_is_kept root tracker)
      (layers_are_kept root tracker)

-- the spelling of a torrent with another tracker is a torrent
pub valid_with : (root : Data) (bytes : List ℕ) (tracker : Option (List ℕ)) (text : List ℕ) → IsTorrentOf root bytes
    → text ≡ spelling (tracker_edited root tracker) → IsValid text
valid_with root bytes tracker text valid is =
    subst IsValid (sym is) (tracker_edited root tracker, still_a_torrent root tracker bytes valid)
