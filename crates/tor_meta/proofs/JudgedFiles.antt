-- A list of files for which there is no refusal.
use Rattle.std.proofs.Common.{◌≡◌, ℕ, Bool, false, ◌&&◌, not, List, [], ◌∷◌, length, None, refl, sym}
use Rattle.std.proofs.Common.{◌∙◌}
use Rattle.std.proofs.Common.{get_or}
use Rattle.std.specs.List.{AllByRecursion, list_any}
use Rattle.std.proofs.lemmas.Bool.{ltb-false, or_parts}
use Rattle.std.proofs.lemmas.List.{length-map}
use Rattle.std.proofs.lemmas.List.Elements.{All-from_recursion}
use Rattle.tor_merkle.specs.Layer.{is_piece_length}
use Rattle.tor_meta.specs.Head.{settings_of}
use Rattle.tor_meta.specs.Judged.{IsJudged}
use Rattle.tor_meta.specs.Refusal.{is_long, is_only, paths_refusal, shape_refusal}
use Rattle.tor_meta.specs.declared.head.Head.{Head}
use Rattle.tor_spec.specs.Settings.{is_aligned}
use Rattle.tor_tree.specs.FileList.{IsFileList, paths_of}
use Rattle.tor_tree.specs.declared.paths.TheConstants.{MAX_NAMES}
use Rattle.tor_v1.specs.Reserved.{is_reserved}
use Rattle.tor_meta.proofs.Judged.{allowed, both_none, cleared, not_reserved, one_path, second_of}

-- what a test says of paths it says of the files that have them
any_of_paths : (q : List (List ℕ) → Bool) (files : List (List (List ℕ) × ℕ))
    → list_any q (paths_of files) ≡ list_any (λ file. q file.0) files
any_of_paths q [] = refl
any_of_paths q (file ∷ files) = rw (any_of_paths q files) refl

none_each : (q : List (List ℕ) → Bool) (files : List (List (List ℕ) × ℕ)) → list_any q (paths_of files) ≡ false
    → AllByRecursion (λ (file : List (List ℕ) × ℕ). q file.0 ≡ false) files
none_each q [] none = tt
none_each q (file ∷ files) none =
    let both = or_parts (q file.0) (list_any q (paths_of files)) none in (both.0, none_each q files both.1)

pub judged_files : (head : Head) (files : List (List (List ℕ) × ℕ)) → IsFileList files
    → paths_refusal (settings_of head) (paths_of files) ≡ None → IsJudged head files
judged_files head files is accepted =
    let paths = paths_of files in
    let parts = both_none (shape_refusal (settings_of head) paths) _ accepted in
    let later = both_none _ _ parts.1 in
    let first = cleared (not (is_piece_length head.piece_length)) _ _ parts.0 in
    let second = cleared (list_any is_long paths) _ _ first.1 in
    let third = cleared (head.single && not (is_only head.name paths)) _ _ second.1 in
    let reserved = cleared (is_aligned head.kind head.single && list_any is_reserved paths) _ _ later.1 in
    record {
      is_list = is;
      piece_length = allowed (is_piece_length head.piece_length) first.0;
      short =
          λ k d lt. ltb-false MAX_NAMES (length (get_or files k d).0)
          (All-from_recursion (λ (file : List (List ℕ) × ℕ). is_long file.0 ≡ false) files
          (none_each is_long files second.0) k d lt);
      one =
          λ e. sym (length-map files (λ file. file.0))
          ∙ one_path head.name paths
          (allowed (is_only head.name paths) (second_of head.single (not (is_only head.name paths)) third.0 e));
      free =
          not_reserved (is_aligned head.kind head.single) head.tail files
          (λ e. sym (any_of_paths is_reserved files)
          ∙ second_of (is_aligned head.kind head.single) (list_any is_reserved paths) reserved.0 e);
    }
