-- What a made torrent tells; a long file of it finds its layer under its root.
use Rattle.tor_spec.proofs.Names.{◌≡◌, ℕ, codes, Bool, true, false, cond, List, [], ◌∷◌, map, get_or, None, Some, refl}
use Rattle.tor_spec.proofs.Names.{ap, ap₂, ◌∙◌, AllByRecursion, cond-false, cond-true, recursion_from_All, Data, string}
use Rattle.tor_spec.proofs.Names.{dictionary, value_of, piece_layer, Facts, File, AreMade, IsViewOfMade, made_file}
use Rattle.tor_spec.proofs.Names.{facts_of_files, pieces_of_files, piece_layers, Settings, layout_of, is_long}
use Rattle.tor_spec.proofs.Names.{layer_of, layers_of, listed_files, side_files, info_of, is_private, kind_of, name_of}
use Rattle.tor_spec.proofs.Names.{part, piece_length_of, text_of, tree_files, FileView, entry_of_file, file_of_list}
use Rattle.tor_spec.proofs.Names.{file_of_tree, files_of, files_of_both, lettered, if◌then◌else◌, view_of, has_v1}
use Rattle.tor_spec.proofs.Names.{has_v2, ◌<◌, length, unwrap_or}
use Rattle.tor_spec.proofs.Names.{arith, All, Contains-get_or, root_of, joined, layer_text, as_string}
use Rattle.tor_spec.proofs.MadeHeads.{IsInfo, IsRootWith, info_told, kind_told, name_told, piece_length_told}
use Rattle.tor_spec.proofs.MadeHeads.{tree_file, private_told}
use Rattle.tor_spec.proofs.Lettered.{lettered_none, lettered_made}
use Rattle.tor_spec.proofs.MadeListEntries.{made_entries}
use Rattle.tor_spec.proofs.MadeListSide.{made_listed}
use Rattle.tor_spec.proofs.MadeLayers.{layer_shown}
use Rattle.tor_spec.proofs.MadeTree.{made_tree_files}
use Rattle.tor_spec.proofs.PutPairs.{AgreesAt, key_of, layer_at, text_of as layer_of_file}

same_root : (one other : List ℕ) → 0 < length one → 0 < length other
    → unwrap_or (root_of one) [] ≡ unwrap_or (root_of other) [] → root_of one ≡ root_of other
same_root [] other some more e = absurd (omega arith)
same_root (byte ∷ bytes) [] some more e = absurd (omega arith)
same_root (byte ∷ bytes) (b ∷ bs) some more e = ap Some e

pub layers_found : (settings : Settings) (files : List File) → AreMade settings files → All (λ file.
    settings.piece_length < length file.content → layer_text
    (dictionary (piece_layers settings.piece_length (facts_of_files settings.piece_length files))) (tree_file file)
    ≡ Some (joined (piece_layer file.content settings.piece_length))) files
layers_found settings files made k d lt long =
    let p = settings.piece_length in
    let one = get_or files k d in
    let agree : AllByRecursion (AgreesAt p (key_of one) (layer_of_file p one)) files =
    recursion_from_All (AgreesAt p (key_of one) (layer_of_file p one)) files
    (λ j e within. λ large same.
    let other = get_or files j e in
    ap joined (made.layers other one (Contains-get_or files j e within) (Contains-get_or files k d lt) large long
    (same_root other.content one.content (omega (arith, large)) (omega (arith, long)) same))) in
    ap as_string (layer_at p (key_of one) (layer_of_file p one) d files k agree lt long refl)

map_same : {X Y Z : Type 0} (f : Y → Z) (g : X → Y) (h : X → Z) (xs : List X)
    → AllByRecursion (λ x. f (g x) ≡ h x) xs → map f (map g xs) ≡ map h xs
map_same f g h [] same = refl
map_same f g h (x ∷ xs) same = ap₂ (λ y ys. y ∷ ys) same.0 (map_same f g h xs same.1)

-- two tests that are one, and what is the same where they are passed
same_cond : {X : Type 0} (b c : Bool) (x y z : X) → b ≡ c → (c ≡ true → x ≡ y) → cond b x z ≡ cond c y z
same_cond true true x y z e same = same refl
same_cond true false x y z e same = cc
same_cond false true x y z e same = cc
same_cond false false x y z e same = refl

module _ (settings : Settings) (files : List File) (made : AreMade settings files) (info root : Data)
    (is : IsInfo settings (facts_of_files settings.piece_length files) (pieces_of_files settings files) info)
    (has : IsRootWith settings (facts_of_files settings.piece_length files) info root) where
  abbrev p : ℕ
  p = settings.piece_length

  abbrev facts : List Facts
  facts = facts_of_files settings.piece_length files

  is_info : info_of root ≡ info
  is_info = info_told settings facts info root has

  is_kind : kind_of (info_of root) ≡ settings.kind
  is_kind = ap kind_of is_info ∙ kind_told settings facts (pieces_of_files settings files) info is

  is_layers : has_v2 settings.kind ≡ true → layers_of root ≡ dictionary (piece_layers p facts)
  is_layers two = let found = has.layers ∙ cond-true (has_v2 settings.kind) _ None two in rw found refl

  shown : has_v2 settings.kind ≡ true → AllByRecursion (λ file. file_of_tree root (tree_file file)
      ≡ made_file settings file) files
  shown two = recursion_from_All (λ (file : File). file_of_tree root (tree_file file) ≡ made_file settings file) files
      (λ k d lt.
      let file = get_or files k d in
      let with : List (List ℕ) → FileView = λ layer. record { file = tree_file file; layer = layer } in
      let layer : cond (is_long (piece_length_of (info_of root)) (tree_file file))
      (layer_of (layers_of root) (tree_file file)) [] ≡ piece_layer file.content p =
      ap₂ (λ (n : ℕ) (some : Data). cond (is_long n (tree_file file)) (layer_of some (tree_file file)) [])
      (ap piece_length_of is_info ∙ piece_length_told settings facts (pieces_of_files settings files) info is)
      (is_layers two)
      ∙ layer_shown p made.piece_length (dictionary (piece_layers p facts)) file
      (layers_found settings files made k d lt) in
      rw two (ap with layer))

  -- the files of a v2 side have the same letters on both sides
  both_shown : (b : Bool) → has_v1 settings.kind ≡ b → has_v2 settings.kind ≡ true
      → files_of_both (info_of root) ≡ map tree_file files
  both_shown b e two =
      let tree : tree_files (info_of root) ≡ map tree_file files =
      ap tree_files is_info ∙ made_tree_files settings files made (pieces_of_files settings files) info is two in
      ap (lettered (if has_v1 (kind_of (info_of root)) then listed_files (info_of root) else [])) tree ∙ by_list b e
    where
      by_list : (b : Bool) → has_v1 settings.kind ≡ b
          → lettered (if has_v1 (kind_of (info_of root)) then listed_files (info_of root) else [])
          (map tree_file files)
          ≡ map tree_file files
      by_list true e =
          ap (λ listed. lettered listed (map tree_file files))
          (cond-true (has_v1 (kind_of (info_of root))) _ _ (ap has_v1 is_kind ∙ e)
          ∙ ap listed_files is_info
          ∙ made_listed settings files (pieces_of_files settings files) info is made e)
          ∙ lettered_made files
      by_list false e =
          ap (λ listed. lettered listed (map tree_file files))
          (cond-false (has_v1 (kind_of (info_of root))) _ _ (ap has_v1 is_kind ∙ e))
          ∙ lettered_none (map tree_file files)

  pub tree_files_shown : has_v2 settings.kind ≡ true → files_of root ≡ map (made_file settings) files
  tree_files_shown two =
      cond-true (has_v2 (kind_of (info_of root))) _ _ (ap has_v2 is_kind ∙ two)
      ∙ ap (map (file_of_tree root)) (both_shown (has_v1 settings.kind) refl two)
      ∙ map_same (file_of_tree root) tree_file (made_file settings) files (shown two)

  files_shown : (b : Bool) → has_v2 settings.kind ≡ b
      → (has_v2 settings.kind ≡ false → map file_of_list (listed_files info) ≡ map (made_file settings) files)
      → files_of root ≡ map (made_file settings) files
  files_shown true e listed = tree_files_shown e
  files_shown false e listed =
      cond-false (has_v2 (kind_of (info_of root))) _ _ (ap has_v2 is_kind ∙ e)
      ∙ ap (λ (i : Data). map file_of_list (listed_files i)) is_info ∙ listed e

  -- with what the v1 side tells
  pub made_view : (has_v2 settings.kind ≡ false → map file_of_list (listed_files info) ≡ map (made_file settings) files)
      → (has_v1 settings.kind ≡ true → map entry_of_file (side_files info)
      ≡ made_entries (layout_of settings) settings.piece_length files)
      → IsViewOfMade settings files (view_of root)
  made_view listed entries =
      let pieces = pieces_of_files settings files in
      let one : has_v1 (kind_of (info_of root)) ≡ has_v1 settings.kind = ap has_v1 is_kind in
      record {
        kind = is_kind;
        name = ap name_of is_info ∙ name_told settings facts pieces info is;
        piece_length = ap piece_length_of is_info ∙ piece_length_told settings facts pieces info is;
        is_private = ap is_private is_info ∙ private_told settings facts pieces info is;
        files = files_shown (has_v2 settings.kind) refl listed;
        entries = same_cond _ _ _ _ [] one
            (λ e. ap (λ (i : Data). map entry_of_file (side_files i)) is_info ∙ entries e);
        pieces = same_cond _ _ _ _ [] one (λ e.
            let found : value_of (codes "pieces") info ≡ Some (string pieces) =
            is.sums ∙ cond-true (has_v1 settings.kind) _ None e in
            ap (λ (i : Data). text_of (part (codes "pieces") i)) is_info ∙ rw found refl);
      }
