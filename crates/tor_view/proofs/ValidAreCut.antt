-- What a torrent describes of which no condition holds can be cut.
use Rattle.tor_view.proofs.Names.{◌≡◌, ℕ, ◌+◌, true, false, ◌&&◌, ◌==◌, List, [], ◌∷◌, map, sum_by, None, refl, ap}
use Rattle.tor_view.proofs.Names.{ap₂, cond, codes, ◌∙◌, subst, sym, unwrap_or, IsViewOfValid, div_ceil, and_parts}
use Rattle.tor_view.proofs.Names.{eqb-true, not-false}
use Rattle.tor_view.proofs.Names.{or_parts, sum_by-cons, Data, span_of, IsLaidOut, IsCut, refusal_of, pieces_in}
use Rattle.tor_view.proofs.Names.{listed_files, ListedFile, side_files, side_piece_count, info_of, is_private}
use Rattle.tor_view.proofs.Names.{kind_of, name_of, part, piece_length_of, text_of, files_differ, has_wrong_tail}
use Rattle.tor_view.proofs.Names.{is_misaligned_after, listed_by_list, listed_by_tree, same_files, tree_files}
use Rattle.tor_view.proofs.Names.{entry_of_file, file_of_list, file_of_tree, FileView, tree_piece_count, View}
use Rattle.tor_view.proofs.Names.{view_of, has_v1, has_v2, path_eq, Kind, V1, V2, Hybrid, TreeFile, files_of_both}
use Rattle.tor_view.proofs.Names.{sum_lettered}
use Rattle.tor_view.proofs.Names.{if◌then◌else◌}
use Rattle.tor_view.proofs.EntryBounds.{lengths_of_both, lengths_told, no_padding_told, small_listed, small_told}
use Rattle.tor_view.proofs.EntryBounds.{told_files}
use Rattle.tor_view.proofs.ListedFiles.{joined_entries, lengths_of_listed, size_of}
use Rattle.tor_view.proofs.ListedPadded.{laid_out}
use Rattle.tor_view.proofs.MerklePieces.{length_of}
use Rattle.tor_view.proofs.NoCondition.{IsKept, kept}

-- ---- the files of both sides

lengths_of_list : (files : List ListedFile) → map length_of (map file_of_list files) ≡ map size_of files
lengths_of_list [] = refl
lengths_of_list (file ∷ files) = ap (λ lengths. file.size ∷ lengths) (lengths_of_list files)

abbrev Sized : Type 0
Sized = List (List ℕ) × ℕ

-- lists of the same files have the same lengths
same_sizes : (files others : List Sized) → same_files files others ≡ true
    → map (λ (file : Sized). file.1) files ≡ map (λ (file : Sized). file.1) others
same_sizes [] [] same = refl
same_sizes [] (other ∷ others) same = cc
same_sizes (file ∷ files) [] same = cc
same_sizes (file ∷ files) (other ∷ others) same =
    let parts = and_parts (path_eq file.0 other.0 && file.1 == other.1) (same_files files others) same in
    let size = and_parts (path_eq file.0 other.0) (file.1 == other.1) parts.0 in
    ap₂ (λ n lengths. n ∷ lengths) (eqb-true file.1 other.1 size.1) (same_sizes files others parts.1)

sizes_of_list : (files : List ListedFile)
    → map (λ (file : Sized). file.1) (map (λ (file : ListedFile). (file.path, file.size)) files) ≡ map size_of files
sizes_of_list [] = refl
sizes_of_list (file ∷ files) = ap (λ sizes. file.size ∷ sizes) (sizes_of_list files)

sizes_of_tree : (files : List TreeFile)
    → map (λ (file : Sized). file.1) (map (λ (file : TreeFile). (file.path, file.length)) files)
    ≡ map (λ (file : TreeFile). file.length) files
sizes_of_tree [] = refl
sizes_of_tree (file ∷ files) = ap (λ sizes. file.length ∷ sizes) (sizes_of_tree files)

sides_same : (root : Data) → files_differ (info_of root) ≡ false
    → map size_of (listed_files (info_of root)) ≡ map length_of (told_files root)
sides_same root none =
    let info = info_of root in
    let listed = listed_by_list info in
    let others = listed_by_tree info in
    sym (sizes_of_list (listed_files info)) ∙ same_sizes listed others (not-false (same_files listed others) none)
    ∙ sizes_of_tree (tree_files info) ∙ sym (lengths_told root (files_of_both info) ∙ lengths_of_both info)

-- ---- the number of pieces

pieces_of_tree : (root : Data) (p : ℕ) (files : List TreeFile)
    → sum_by (λ (file : TreeFile). pieces_in p file.length) files
    ≡ sum_by (λ (told : FileView). pieces_in p told.file.length) (map (file_of_tree root) files)
pieces_of_tree root p [] = refl
pieces_of_tree root p (file ∷ files) =
    sum_by-cons (λ (one : TreeFile). pieces_in p one.length) file files
    ∙ ap (λ n. pieces_in p file.length + n) (pieces_of_tree root p files)
    ∙ sym (sum_by-cons (λ (told : FileView). pieces_in p told.file.length) (file_of_tree root file)
    (map (file_of_tree root) files))

pieces_of_both : (root : Data) (p : ℕ)
    → sum_by (λ (file : TreeFile). pieces_in p file.length) (tree_files (info_of root))
    ≡ sum_by (λ (told : FileView). pieces_in p told.file.length) (told_files root)
pieces_of_both root p =
    let info = info_of root in
    sym (sum_lettered (λ file. pieces_in p file.length) (λ listed file. refl)
    (if has_v1 (kind_of info) then listed_files info else []) (tree_files info))
    ∙ pieces_of_tree root p (files_of_both info)

-- ---- by kind

-- what the tree describes if it is of this kind
abbrev view_as : Data → Kind → View
view_as root kind =
    let info = info_of root in
    record {
      kind = kind;
      name = name_of info;
      piece_length = piece_length_of info;
      is_private = is_private info;
      files = cond (has_v2 kind) (told_files root) (map file_of_list (listed_files info));
      entries = cond (has_v1 kind) (map entry_of_file (side_files info)) [];
      pieces = cond (has_v1 kind) (text_of (part (codes "pieces") info)) [];
      info_span = unwrap_or (span_of (codes "info") root) (0, 0);
      piece_count = cond (has_v2 kind) (tree_piece_count info) (side_piece_count info);
    }

module _ (root : Data) where
  abbrev info : Data
  info = info_of root

  abbrev p : ℕ
  p = piece_length_of info

  v1_cut : IsKept V1 info → IsCut (view_as root V1)
  unfolding IsLaidOut
  v1_cut kept =
      let small = small_listed (side_files info) (kept.list refl) in
      record {
        entries = record { total = small.total; files = small.files; laid_out = tt };
        pieces = kept.pieces;
        same = λ one. lengths_of_listed (side_files info) ∙ sym (lengths_of_list (listed_files info));
        count = ap (λ n. div_ceil n p) (sym (joined_entries (side_files info)));
      }

  v2_cut : IsKept V2 info → IsCut (view_as root V2)
  unfolding IsLaidOut
  v2_cut kept =
      let small = small_told root (kept.tree refl) in
      record {
        entries = record {
          total = small.total;
          files = small.files;
          laid_out = no_padding_told (told_files root);
        };
        pieces = kept.pieces;
        same = λ one. cc;
        count = pieces_of_both root p;
      }

  hybrid_cut : IsKept Hybrid info → IsCut (view_as root Hybrid)
  hybrid_cut kept =
      let files = side_files info in
      let small = small_listed files (kept.list refl) in
      let aligned = or_parts (is_misaligned_after p [] files) (has_wrong_tail p files) (kept.aligned refl refl) in
      record {
        entries = record {
          total = small.total;
          files = small.files;
          laid_out = laid_out p files aligned.0 aligned.1;
        };
        pieces = kept.pieces;
        same = λ one. lengths_of_listed files ∙ sides_same root (kept.files refl refl);
        count = pieces_of_both root p;
      }

  cut_as : (kind : Kind) → IsKept kind info → IsCut (view_as root kind)
  cut_as V1 = v1_cut
  cut_as V2 = v2_cut
  cut_as Hybrid = hybrid_cut

pub valid_torrents_are_cut : (root : Data) → refusal_of root ≡ None → IsCut (view_of root)
valid_torrents_are_cut root none = cut_as root (kind_of (info_of root)) (kept root none)

pub cut_of : (view : View) → IsViewOfValid view → IsCut view
cut_of view valid = subst IsCut (sym valid.described) (valid_torrents_are_cut valid.tree valid.accepted)
