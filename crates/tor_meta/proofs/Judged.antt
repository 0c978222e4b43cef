-- What is known of files where no torrent is refused for the head or the paths.
use Rattle.std.proofs.Common.{◌≡◌, ℕ, zero, suc, Bool, true, false, ◌&&◌, not, cond, List, [], ◌∷◌, length}
use Rattle.std.proofs.Common.{get_or, map, None, refl, ◌∙◌}
use Rattle.std.specs.List.{AllByRecursion, list_any}
use Rattle.std.proofs.lemmas.Bool.{ltb-false, or_parts}
use Rattle.std.proofs.lemmas.List.{length-map}
use Rattle.std.proofs.lemmas.List.Elements.{All-from_recursion, recursion_from_All}
use Rattle.tor_merkle.specs.Layer.{is_piece_length}
use Rattle.tor_meta.specs.Head.{settings_of}
use Rattle.tor_meta.specs.Refusal.{is_long, is_only, paths_refusal, shape_refusal}
use Rattle.tor_meta.specs.steps.Sums.{IsJudged}
use Rattle.tor_meta.specs.declared.head.Head.{Head}
use Rattle.tor_tree.specs.declared.paths.TheConstants.{MAX_NAMES}
use Rattle.tor_merkle.specs.Layer.{IsPieceLength}
use Rattle.tor_spec.specs.Settings.{Settings, is_aligned}
use Rattle.tor_tree.specs.FileList.{IsFileList}
use Rattle.tor_tree.specs.PathList.{AreIndexedPaths}
use Rattle.tor_v1.specs.Reserved.{is_reserved, takes_reserved}
use Rattle.tor_v1.specs.declared.layout.Layout.TheVariants.{Joined, Aligned, AlignedTail}
pub use Rattle.tor_tree.proofs.ProvedLaws.{clear as cleared, neither as both_none}

pub allowed : (b : Bool) → not b ≡ false → b ≡ true
allowed true h = refl
allowed false h = cc

pub second_of : (a b : Bool) → (a && b) ≡ false → a ≡ true → b ≡ false
second_of true b h e = h
second_of false b h e = cc

any_at : {X : Type 0} (q : X → Bool) (xs : List X) (k : ℕ) (d : X) → q d ≡ false → list_any q xs ≡ false
    → q (get_or xs k d) ≡ false
any_at q [] k d none h = none
any_at q (x ∷ xs) zero d none h = (or_parts (q x) (list_any q xs) h).0
any_at q (x ∷ xs) (suc k) d none h = any_at q xs k d none (or_parts (q x) (list_any q xs) h).1

none_of : {X : Type 0} (q : X → Bool) (xs : List X) → AllByRecursion (λ x. q x ≡ false) xs → list_any q xs ≡ false
none_of q [] h = refl
none_of q (x ∷ xs) h = rw h.0 (none_of q xs h.1)

-- what holds of no path that was handed in holds of no file
abbrev AreFound : List (List (List ℕ)) → List (List (List ℕ) × ℕ) → Type 0
AreFound paths entries = AllByRecursion (λ entry. get_or paths entry.1 [] ≡ entry.0) entries

of_files : (q : List (List ℕ) → Bool) → q [] ≡ false
    → (paths : List (List (List ℕ))) (lengths : ℕ → ℕ) (entries : List (List (List ℕ) × ℕ))
    → AreFound paths entries → list_any q paths ≡ false
    → AllByRecursion (λ (file : List (List ℕ) × ℕ). q file.0
    ≡ false) (map (λ entry. (entry.0, lengths entry.1)) entries)
of_files q none paths lengths [] found h = tt
of_files q none paths lengths (entry ∷ entries) found h =
    let here : q entry.0 ≡ false = rw (← found.0) (any_at q paths entry.1 [] none h) in
    (here, of_files q none paths lengths entries found.1 h)

pub one_path : (name : List ℕ) (paths : List (List (List ℕ))) → is_only name paths ≡ true → length paths ≡ 1
one_path name [] h = cc
one_path name (path ∷ []) h = refl
one_path name (path ∷ other ∷ paths) h = cc

pub not_reserved : (aligned tail : Bool) (files : List (List (List ℕ) × ℕ))
    → (aligned ≡ true → list_any (λ file. is_reserved file.0) files ≡ false)
    → takes_reserved (cond aligned (cond tail AlignedTail Aligned) Joined) files ≡ false
not_reserved true true files h = h refl
not_reserved true false files h = h refl
not_reserved false tail files h = refl

-- a torrent that is not refused has pieces that are allowed
pub piece_allowed : (settings : Settings) (paths : List (List (List ℕ))) → paths_refusal settings paths ≡ None
    → IsPieceLength settings.piece_length
piece_allowed settings paths accepted =
    allowed (is_piece_length settings.piece_length)
    (cleared (not (is_piece_length settings.piece_length)) _ _
    (both_none (shape_refusal settings paths) _ accepted).0).0

pub judged : (head : Head) (paths : List (List (List ℕ))) (lengths : ℕ → ℕ) (entries : List (List (List ℕ) × ℕ))
    → AreIndexedPaths paths entries → paths_refusal (settings_of head) paths ≡ None
    → IsFileList (map (λ entry. (entry.0, lengths entry.1)) entries)
    → IsJudged head (map (λ entry. (entry.0, lengths entry.1)) entries)
judged head paths lengths entries indexed accepted is_list =
    let parts = both_none (shape_refusal (settings_of head) paths) _ accepted in
    let later = both_none _ _ parts.1 in
    let first = cleared (not (is_piece_length head.piece_length)) _ _ parts.0 in
    let second = cleared (list_any is_long paths) _ _ first.1 in
    let third = cleared (head.single && not (is_only head.name paths)) _ _ second.1 in
    let reserved = cleared (is_aligned head.kind head.single && list_any is_reserved paths) _ _ later.1 in
    let found = recursion_from_All _ entries indexed.found in
    let files = map (λ (entry : List (List ℕ) × ℕ). (entry.0, lengths entry.1)) entries in
    record {
      is_list = is_list;
      piece_length = allowed (is_piece_length head.piece_length) first.0;
      short =
          λ k d lt. ltb-false MAX_NAMES (length (get_or files k d).0)
          (All-from_recursion (λ (file : List (List ℕ) × ℕ). is_long file.0
          ≡ false) files (of_files is_long refl paths lengths entries found second.0) k d lt);
      one =
          λ e. simp length-map (indexed.one_each
          ∙ one_path head.name paths
          (allowed (is_only head.name paths) (second_of head.single (not (is_only head.name paths)) third.0 e)));
      free =
          not_reserved (is_aligned head.kind head.single) head.tail files
          (λ e. none_of (λ (file : List (List ℕ) × ℕ). is_reserved file.0) files
          (of_files is_reserved refl paths lengths entries found
          (second_of (is_aligned head.kind head.single) (list_any is_reserved paths) reserved.0 e)));
    }
