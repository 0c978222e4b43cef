-- What is made of files that are not refused keeps what the definition of a made torrent asks for.
use Rattle.std.proofs.Common.{◌≡◌, ◌≤◌, ◌&&◌, ℕ, true, false, not, List, [], ◌∷◌, length, map, None}
use Rattle.std.proofs.Common.{refl, sym, subst, ap, ◌∙◌, arith}
use Rattle.std.specs.List.{All, AllByRecursion, list_any}
use Rattle.std.specs.List.Sorted.{IsPermutation, IsStrictlySortedBy}
use Rattle.std.proofs.lemmas.Bool.{ltb-false, or_parts}
use Rattle.std.proofs.lemmas.List.Elements.{All-from_recursion, All-map, recursion_from_All}
use Rattle.std.proofs.lemmas.List.Sorted.{All-permutation, Contains-permutation, IsPermutation-map, IsPermutation-sym}
use Rattle.std.proofs.lemmas.List.Sorted.{length_permutation, list_any-IsPermutation}
use Rattle.std.proofs.lemmas.Slice.Eq.{bytes_eq-Decides}
use Rattle.tor_merkle.specs.Layer.{is_piece_length}
use Rattle.tor_bencode.specs.Data.{Data}
use Rattle.tor_meta.specs.Contents.{IsMadeOf}
use Rattle.tor_meta.specs.Refusal.{contents_refusal, is_long, is_only, paths_refusal, shape_refusal}
use Rattle.tor_meta.specs.declared.refusals.ContentsError.TheVariants.{List as list_refusal}
use Rattle.tor_spec.specs.Facts.{File}
use Rattle.tor_spec.specs.Made.{AreMade, HaveOneLayer, IsViewOfMade, sizes_of}
use Rattle.tor_spec.specs.Metainfo.{facts_of_files, pieces_of_files, root_dictionary}
use Rattle.tor_spec.specs.Settings.{Settings}
use Rattle.tor_spec.specs.valid.Conditions.{IsTorrentOf}
use Rattle.tor_spec.specs.valid.View.{view_of}
use Rattle.tor_spec.proofs.ProvedLaws.{made_torrents_are_told, made_torrents_are_valid}
use Rattle.tor_tree.specs.FileList.{lengths_fault, lengths_of, list_fault, paths_fault, paths_of}
use Rattle.tor_tree.specs.Name.{name_fault}
use Rattle.tor_tree.specs.Path.{IsFilePath, name_eq, path_cmp}
use Rattle.tor_tree.specs.declared.paths.TheConstants.{MAX_NAMES}
use Rattle.tor_tree.proofs.ProvedLaws.{lengths_in_any_order, paths_in_any_order}
use Rattle.tor_meta.proofs.Judged.{allowed, both_none, cleared, second_of}
use Rattle.tor_meta.proofs.SourceSums.{mapped_none}

abbrev paths_in : List File → List (List (List ℕ))
paths_in files = map (λ file. file.path) files

abbrev lengths_in : List File → List ℕ
lengths_in files = map (λ file. length file.content) files

same_paths : (files : List File) → paths_of (sizes_of files) ≡ paths_in files
same_paths [] = refl
same_paths (file ∷ files) = ap (λ paths. file.path ∷ paths) (same_paths files)

same_lengths : (files : List File) → lengths_of (sizes_of files) ≡ lengths_in files
same_lengths [] = refl
same_lengths (file ∷ files) = ap (λ lengths. length file.content ∷ lengths) (same_lengths files)

-- a list of one element has no other order
one_stays : {X : Type 0} (x : X) (ys : List X) → All (λ y. y ≡ x) ys → length ys ≡ 1 → ys ≡ x ∷ []
one_stays x [] same count = absurd (omega arith)
one_stays x (y ∷ []) same count = ap (λ first. first ∷ []) (recursion_from_All (λ first. first ≡ x) (y ∷ []) same).0
one_stays x (y ∷ z ∷ ys) same count = absurd (omega arith)

one_permuted : {X : Type 0} (x : X) (xs ys : List X) → xs ≡ x ∷ [] → IsPermutation xs ys → ys ≡ x ∷ []
one_permuted x xs ys is moved =
    let all : All (λ y. y ≡ x) xs = rw is (All-from_recursion (λ y. y ≡ x) (x ∷ []) (refl, tt)) in
    one_stays x ys (All-permutation (λ y. y ≡ x) xs ys moved all)
    (length_permutation xs ys moved ∙ ap length is)

name_is : (m n : List ℕ) → name_eq m n ≡ true → m ≡ n
name_is m n = (bytes_eq-Decides m n).0

only_path : (name : List ℕ) (paths : List (List (List ℕ))) → is_only name paths ≡ true → paths ≡ (name ∷ []) ∷ []
only_path name [] h = cc
only_path name ([] ∷ []) h = cc
only_path name ((first ∷ []) ∷ []) h = ap (λ n. (n ∷ []) ∷ []) (name_is first name h)
only_path name ((first ∷ second ∷ names) ∷ []) h = cc
only_path name (path ∷ other ∷ paths) h = cc

none_long : (files : List File) → list_any is_long (paths_in files) ≡ false
    → AllByRecursion (λ file. length file.path ≤ 64) files
none_long [] h = tt
none_long (file ∷ files) h =
    let parts = or_parts (is_long file.path) (list_any is_long (paths_in files)) h in
    (ltb-false MAX_NAMES (length file.path) parts.0, none_long files parts.1)

module _ (settings : Settings) (files sorted : List File) (moved : IsPermutation files sorted)
    (accepted : contents_refusal settings files ≡ None) where
  moved_paths : IsPermutation (paths_in files) (paths_in sorted)
  moved_paths = IsPermutation-map (λ file. file.path) files sorted moved

  moved_lengths : IsPermutation (lengths_in files) (lengths_in sorted)
  moved_lengths = IsPermutation-map (λ file. length file.content) files sorted moved

  of_paths : paths_refusal settings (paths_in files) ≡ None
  of_paths = (both_none (paths_refusal settings (paths_in files)) _ accepted).0

  of_shape : shape_refusal settings (paths_in files) ≡ None
  of_shape = (both_none (shape_refusal settings (paths_in files)) _ of_paths).0

  paths_clear : paths_fault (paths_in sorted) ≡ None
  paths_clear =
      let later = both_none (shape_refusal settings (paths_in files)) _ of_paths in
      let listed = both_none _ _ later.1 in
      sym (paths_in_any_order (paths_in files) (paths_in sorted) moved_paths)
      ∙ mapped_none list_refusal (paths_fault (paths_in files)) listed.0

  lengths_clear : lengths_fault (lengths_in sorted) ≡ None
  lengths_clear =
      sym (lengths_in_any_order (lengths_in files) (lengths_in sorted) moved_lengths)
      ∙ mapped_none list_refusal (lengths_fault (lengths_in files))
      (both_none (paths_refusal settings (paths_in files)) _ accepted).1

  faultless : list_fault (sizes_of sorted) ≡ None
  faultless = rw (same_paths sorted, same_lengths sorted, paths_clear) lengths_clear

  known_length : is_piece_length settings.piece_length ≡ true
  known_length =
      allowed (is_piece_length settings.piece_length)
      (cleared (not (is_piece_length settings.piece_length)) _ _ of_shape).0

  short_paths : list_any is_long (paths_in sorted) ≡ false
  short_paths =
      let first = cleared (not (is_piece_length settings.piece_length)) _ _ of_shape in
      let second = cleared (list_any is_long (paths_in files)) _ _ first.1 in
      sym (list_any-IsPermutation is_long (paths_in files) (paths_in sorted) moved_paths) ∙ second.0

  one_path : settings.single ≡ true → paths_in sorted ≡ (settings.name ∷ []) ∷ []
  one_path single =
      let first = cleared (not (is_piece_length settings.piece_length)) _ _ of_shape in
      let second = cleared (list_any is_long (paths_in files)) _ _ first.1 in
      let third = cleared (settings.single && not (is_only settings.name (paths_in files))) _ _ second.1 in
      let only = allowed (is_only settings.name (paths_in files))
      (second_of settings.single (not (is_only settings.name (paths_in files))) third.0 single) in
      one_permuted (settings.name ∷ []) (paths_in files) (paths_in sorted)
      (only_path settings.name (paths_in files) only) moved_paths

  pub are_made : name_fault settings.name ≡ None → All (λ file. IsFilePath file.path) files
      → HaveOneLayer settings.piece_length files → IsStrictlySortedBy path_cmp (paths_in sorted)
      → AreMade settings sorted
  are_made name named layers rising =
      let back = IsPermutation-sym files sorted moved in
      record {
        piece_length = known_length;
        name = name;
        list = record {
          faultless = faultless;
          in_order = rw (same_paths sorted) rising;
          named =
              All-map (λ file. IsFilePath file.0) (λ file. (file.path, length file.content)) sorted
              (All-permutation (λ file. IsFilePath file.path) files sorted moved named);
        };
        short = All-from_recursion _ sorted (none_long sorted short_paths);
        single = one_path;
        layers =
            λ one other in_one in_other. layers one other (Contains-permutation sorted files one back in_one)
            (Contains-permutation sorted files other back in_other);
      }

pub what_is_made_is_valid : (settings : Settings) (files : List File) (bytes : List ℕ) → name_fault settings.name ≡ None
    → All (λ file. IsFilePath file.path) files → contents_refusal settings files ≡ None
    → HaveOneLayer settings.piece_length files → IsMadeOf settings files bytes
    → (root : Data) × (sorted : List File) × IsTorrentOf root bytes × IsPermutation files sorted
    × IsStrictlySortedBy path_cmp (paths_in sorted) × IsViewOfMade settings sorted (view_of root)
what_is_made_is_valid settings files bytes name named accepted layers (sorted, moved, rising, is) =
    let made = are_made settings files sorted moved accepted name named layers rising in
    let facts = facts_of_files settings.piece_length sorted in
    let root = root_dictionary settings facts (pieces_of_files settings sorted) in (
      root,
      sorted,
      subst (IsTorrentOf root) (sym is) (made_torrents_are_valid settings sorted made),
      moved,
      rising,
      made_torrents_are_told settings sorted made,
    )
