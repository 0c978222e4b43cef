-- What a tree of which no condition holds has for each file of its v2 side that is not empty.
use Rattle.tor_check.proofs.Names.{◌≡◌, ℕ, ◌/◌, ◌<◌, ◌≤◌, ◌==◌, true, false, true≢false, Bool, not, ◌&&◌, List, length}
use Rattle.tor_check.proofs.Names.{map, Option, None, Some, ap, arith, lit<, nat_lt, refl, subst, sym, ◌∙◌, zero, suc}
use Rattle.tor_check.proofs.Names.{[], drop, is_some, unwrap_or, codes, slice_get, div_ceil, All, first_chunks}
use Rattle.tor_check.proofs.Names.{bytes_eq, eqb-false, lt-ltb, bytes_eq-Decides, Data, value_of, HasTree, files_if}
use Rattle.tor_check.proofs.Names.{IsViewOfValid, IsPieceLength, piece_level, padded_root, refusal_of, has_other_root}
use Rattle.tor_check.proofs.Names.{is_misshaped, layer_length, layer_of, layer_root, layer_text, layers_of}
use Rattle.tor_check.proofs.Names.{root_of_file, info_of, kind_of, piece_length_of, tree_files, tree_of, tree_root}
use Rattle.tor_check.proofs.Names.{FileView, View, file_of_tree, files_of, files_of_both, entries_of, file_of}
use Rattle.tor_check.proofs.Names.{lacks_root, has_v1}
use Rattle.tor_check.proofs.Names.{file_of_both, has_v2, if◌then◌else◌, lettered_case, listed_files, ListedFile}
use Rattle.tor_check.proofs.Names.{as_integer, is_hash, length_of, pieces_root, MAX_LENGTH, TreeFile}
use Rattle.tor_check.proofs.Bounds.{small_files}
use Rattle.tor_check.proofs.HeadFacts.{allowed_by, not_false}
use Rattle.tor_check.proofs.LayerSteps.{shaped_length}
use Rattle.tor_check.proofs.ListSteps.{any_mapped}
use Rattle.tor_check.proofs.NoneHolds.{all_at, mapped_at, no_side_fault, none_at, not_held}

-- of a side that is there
of_side : (there fault : Bool) → there ≡ true → (there && fault) ≡ false → fault ≡ false
of_side true fault is e = e
of_side false fault is e = absurd (true≢false (sym is))

-- a file that is not empty has a root
hash_is_there : (root : Option (List ℕ)) → is_hash root ≡ true → is_some root ≡ true
hash_is_there None e = absurd (true≢false (sym e))
hash_is_there (Some root) e = refl

has_root : (entry : List (List ℕ) × Data) → lacks_root entry.1 ≡ false → ((file_of entry).length == 0) ≡ false
    → is_some (file_of entry).root ≡ true
has_root (path, properties) none filled =
    let more = eqb-false (length_of properties) 0 filled in
    let some = lt-ltb 0 (length_of properties) (omega (arith, more)) in
    rw filled (hash_is_there (pieces_root properties) (not_false (is_hash (pieces_root properties))
    (of_side (nat_lt 0 (length_of properties)) (not (is_hash (pieces_root properties))) some none)))

-- a text has as many chunks as are cut
length-first_chunks : {X : Type 0} (n k : ℕ) (xs : List X) → length (first_chunks n k xs) ≡ k
length-first_chunks n zero xs = refl
length-first_chunks n (suc k) xs = ap (λ (j : ℕ). suc j) (length-first_chunks n k (drop n xs))

-- a layer that has its shape has one hash for each piece
one_for_each_piece : (p : ℕ) (layers : Data) (file : TreeFile) → p < file.length
    → is_misshaped p layers file ≡ false → length (layer_of layers file) ≡ div_ceil file.length p
one_for_each_piece p layers file long shaped =
    let text = unwrap_or (layer_text layers file) [] in
    let whole = shaped_length p file.length (length text) long shaped in
    length-first_chunks 32 (length text / 32) text ∙ omega (arith, whole)

-- and its root is the file's
root_of_layer : (p : ℕ) (layers : Data) (file : TreeFile) → p < file.length → has_other_root p layers file ≡ false
    → padded_root (piece_level p) (layer_of layers file) ≡ root_of_file file
root_of_layer p layers file long same =
    let joined = padded_root (piece_level p) (layer_of layers file) in
    let equal = of_side (nat_lt p file.length) (not (bytes_eq joined (root_of_file file)))
    (lt-ltb p file.length long) same in
    (bytes_eq-Decides joined (root_of_file file)).0 (not_false (bytes_eq joined (root_of_file file)) equal)

module _ (root : Data) (none : refusal_of root ≡ None) (v2 : has_v2 (kind_of (info_of root)) ≡ true) where
  abbrev info : Data
  info = info_of root

  abbrev p : ℕ
  p = piece_length_of info

  -- V5
  pub allowed_in : IsPieceLength (piece_length_of (info_of root))
  allowed_in =
      (allowed_by (kind_of info) (as_integer (value_of (codes "piece length") info))
      (not_held root none 3 (lit< tt))).tree v2

  -- V17, V13, V20 and V21, of a file of the tree
  tree_at : (i : ℕ) (file : TreeFile) → slice_get (tree_files info) i ≡ Some file → (file.length == 0) ≡ false
      → HasTree p (file_of_tree root file)
  tree_at i file at filled =
      let entry = mapped_at file_of (entries_of (tree_of info)) i file at in
      let roots = of_side (has_v2 (kind_of info)) (tree_root info) v2 (not_held root none 15 (lit< tt)) in
      let rooted = none_at (λ entry. lacks_root entry.1) (entries_of (tree_of info)) i entry.0
      (sym (any_mapped lacks_root (λ entry. entry.1) (entries_of (tree_of info))) ∙ roots) entry.1 in
      let own : ((file_of entry.0).length == 0) ≡ false =
      subst (λ (f : TreeFile). (f.length == 0) ≡ false) (sym entry.2) filled in
      let small = small_files info (files_if info) refl (no_side_fault root none) v2 in
      let small' : All (λ file. file.length ≤ MAX_LENGTH) (tree_files info) = rw v2 at small in
      let shaped = of_side (has_v2 (kind_of info)) (layer_length root) v2 (not_held root none 18 (lit< tt)) in
      let joined = of_side (has_v2 (kind_of info)) (layer_root root) v2 (not_held root none 19 (lit< tt)) in
      let layers = layers_of root in
      record {
        small = all_at (λ file. file.length ≤ MAX_LENGTH) (tree_files info) i file small' at;
        root = subst (λ (f : TreeFile). is_some f.root ≡ true) entry.2 (has_root entry.0 rooted own);
        pieces = λ long. rw (lt-ltb p file.length long) (one_for_each_piece p layers file long
            (none_at (is_misshaped p layers) (tree_files info) i file shaped at));
        joined = λ long. rw (lt-ltb p file.length long) (root_of_layer p layers file long
            (none_at (has_other_root p layers) (tree_files info) i file joined at));
      }

  -- letters change nothing of it
  with_its_letters : (listed : ListedFile) (file : TreeFile) → HasTree p (file_of_tree root file)
      → HasTree p (file_of_tree root (file_of_both listed file))
  with_its_letters listed file has =
      record { small = has.small; root = has.root; pieces = has.pieces; joined = has.joined }

  pub tree_in : (i : ℕ) (told : FileView) → slice_get (files_of root) i ≡ Some told
      → (told.file.length == 0) ≡ false → HasTree (piece_length_of (info_of root)) told
  tree_in i told at filled =
      let at' : slice_get (map (file_of_tree root) (files_of_both info)) i ≡ Some told = rw v2 at at in
      let made = mapped_at (file_of_tree root) (files_of_both info) i told at' in
      let own : (made.0.length == 0) ≡ false =
      subst (λ (view : FileView). (view.file.length == 0) ≡ false) (sym made.2) filled in
      let listed = if has_v1 (kind_of info) then listed_files info else [] in
      subst (HasTree p) made.2
      (lettered_case (λ file. (file.length == 0) ≡ false → HasTree p (file_of_tree root file))
      (λ one file has some. with_its_letters one file (has some)) listed (tree_files info) i made.0 made.1
      (λ file found. tree_at i file found) own)

-- the piece length of a view is allowed, and each of its files that is not empty has its tree
pub allowed_of_view : (view : View) → IsViewOfValid view → has_v2 view.kind ≡ true → IsPieceLength view.piece_length
allowed_of_view view valid v2 =
    let own = subst (λ (v : View). has_v2 v.kind ≡ true) valid.described v2 in
    subst (λ (v : View). IsPieceLength v.piece_length) (sym valid.described)
    (allowed_in valid.tree valid.accepted own)

pub tree_of_view : (view : View) → IsViewOfValid view → has_v2 view.kind ≡ true → (i : ℕ) (told : FileView)
    → slice_get view.files i ≡ Some told → (told.file.length == 0) ≡ false → HasTree view.piece_length told
tree_of_view view valid v2 i told at filled =
    let own = subst (λ (v : View). has_v2 v.kind ≡ true) valid.described v2 in
    let there = subst (λ (v : View). slice_get v.files i ≡ Some told) valid.described at in
    subst (λ (v : View). HasTree v.piece_length told) (sym valid.described)
    (tree_in valid.tree valid.accepted own i told there filled)
