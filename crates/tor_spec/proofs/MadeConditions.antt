-- No condition holds of a made torrent.
use Rattle.tor_spec.proofs.Names.{◌≡◌, ℕ, pos, Bool, true, false, true≢false, not, ◌&&◌, ◌||◌, List, map, get_or, find}
use Rattle.tor_spec.proofs.Names.{is_some, None, refl, sym, ap, ◌∙◌, arith, [], ◌∷◌, All, list_any, and_from, and_right}
use Rattle.tor_spec.proofs.Names.{cond-true, le-leb, not_from_true, or_from, All-map, list_any_none, Data, integer}
use Rattle.tor_spec.proofs.Names.{dictionary, piece_length_bounds, IsPieceLength, when, Facts, File, AreMade}
use Rattle.tor_spec.proofs.Names.{facts_of_files, piece_layers, Settings, Condition, conditions, holds, of_both}
use Rattle.tor_spec.proofs.Names.{of_list, of_tree, refusal_of, Alignment, AttrDiffer, Duplicate, FileAndFolder}
use Rattle.tor_spec.proofs.Names.{FileLength}
use Rattle.tor_spec.proofs.Names.{FileShape, FilesDiffer, InfoShape, LayerAbsent, LayerLength, LayerRoot, LayersAbsent}
use Rattle.tor_spec.proofs.Names.{LengthAndFiles, MetaVersion, MixedNode, Name, NoFiles, PieceLength, PiecesLength}
use Rattle.tor_spec.proofs.Names.{RootHash, RootShape, Symlink, TooLarge, info_of, is_number, kind_of, piece_length_of}
use Rattle.tor_spec.proofs.Names.{alignment, attr_differs, files_differ, tree_files, is_dictionary, has_v1}
use Rattle.tor_spec.proofs.Names.{has_v2, Kind}
use Rattle.tor_spec.proofs.Names.{V1, V2, Hybrid, TreeFile}
use Rattle.tor_spec.proofs.MadeView.{layers_found}
use Rattle.tor_spec.proofs.MadeHeads.{IsInfo, IsRootWith, info_told, kind_told, piece_length_told, tree_file}
use Rattle.tor_spec.proofs.MadeList.{ListIsValid}
use Rattle.tor_spec.proofs.MadeLayers.{guarded, has_own_root, lacks_none, well_shaped}
use Rattle.tor_spec.proofs.MadeSides.{SidesAgree}
use Rattle.tor_spec.proofs.MadeTree.{TreeIsValid, made_tree, made_tree_files}
use Rattle.tor_spec.specs.valid.Heads as heads
use Rattle.tor_spec.specs.valid.Layers as layers
use Rattle.tor_spec.specs.valid.ListSide as lists
use Rattle.tor_spec.specs.valid.TreeSide as trees

find_none : {X : Type 0} (p : X → Bool) (xs : List X) → ((x : X) → p x ≡ false) → find p xs ≡ None
find_none p [] none = refl
find_none p (x ∷ xs) none = rw (none x) (find_none p xs none)

two_is_two : (there : Bool)
    → (is_some (when there (integer (pos 2))) && not (is_number 2 (when there (integer (pos 2))))) ≡ false
two_is_two true = refl
two_is_two false = refl

-- just one of two is there
one_there : (v1 single : Bool) (x y : Data) → v1 ≡ true
    → ((is_some (when (v1 && single) x) && is_some (when (v1 && not single) y))
    || (not (is_some (when (v1 && single) x)) && not (is_some (when (v1 && not single) y)))) ≡ false
one_there true true x y e = refl
one_there true false x y e = refl
one_there false single x y e = absurd (true≢false (sym e))

both_sides : (kind : Kind) → has_v1 kind ≡ true → has_v2 kind ≡ true → kind ≡ Hybrid
both_sides V1 one two = absurd (true≢false (sym two))
both_sides V2 one two = absurd (true≢false (sym one))
both_sides Hybrid one two = refl

same_any : (c : ℕ → Data → TreeFile → Bool) (p q : ℕ) (some others : Data) (files told : List TreeFile) → p ≡ q
    → some ≡ others → files ≡ told → list_any (c p some) files ≡ list_any (c q others) told
same_any c p q some others files told e f g =
    ap (λ (n : ℕ). list_any (c n some) files) e ∙ ap (λ (d : Data). list_any (c q d) files) f
    ∙ ap (list_any (c q others)) g

no_file : (c : TreeFile → Bool) (files : List File) → All (λ file. c (tree_file file) ≡ false) files
    → list_any c (map tree_file files) ≡ false
no_file c files none =
    list_any_none c (map tree_file files) (All-map (λ (file : TreeFile). c file ≡ false) tree_file files none)

module _ (settings : Settings) (facts : List Facts) (pieces : List ℕ) (info : Data)
    (is : IsInfo settings facts pieces info) where
  no_other_version : heads.meta_version info ≡ false
  no_other_version = rw is.version (two_is_two (has_v2 settings.kind))

  a_piece_length : IsPieceLength settings.piece_length → heads.piece_length info ≡ false
  a_piece_length allowed =
      let bounds = (piece_length_bounds settings.piece_length).0 allowed in
      rw is.piece_length (or_from _ _
      (not_from_true _ (and_from _ _ (le-leb 1 settings.piece_length (omega (arith, bounds)))
      (le-leb settings.piece_length _ (omega (arith, bounds)))))
      (and_right (has_v2 (kind_of info)) _ (not_from_true _ allowed)))

  one_of_two : heads.length_and_files info ≡ false
  one_of_two = guarded (has_v1 (kind_of info)) _ (λ e.
      rw (is.size, is.files) (one_there (has_v1 settings.kind) settings.single _ _
      (sym (ap has_v1 (kind_told settings facts pieces info is)) ∙ e)))

module _ (settings : Settings) (files : List File) (made : AreMade settings files) (pieces : List ℕ) (info root : Data)
    (is : IsInfo settings (facts_of_files settings.piece_length files) pieces info)
    (has : IsRootWith settings (facts_of_files settings.piece_length files) info root)
    (dict : is_dictionary info ≡ true) (listed : has_v1 settings.kind ≡ true → ListIsValid info)
    (agree : settings.kind ≡ Hybrid → SidesAgree info) where
  abbrev p : ℕ
  p = settings.piece_length

  abbrev facts : List Facts
  facts = facts_of_files settings.piece_length files

  is_info : info_of root ≡ info
  is_info = info_told settings facts info root has

  is_kind : kind_of info ≡ settings.kind
  is_kind = kind_told settings facts pieces info is

  no_list : (c : Data → Bool) → (ListIsValid info → c info ≡ false) → of_list c (info_of root) ≡ false
  no_list c none =
      ap (of_list c) is_info
      ∙ guarded (has_v1 (kind_of info)) (c info) (λ e. none (listed (sym (ap has_v1 is_kind) ∙ e)))

  no_tree : (c : Data → Bool) → (TreeIsValid info → c info ≡ false) → of_tree c (info_of root) ≡ false
  no_tree c none =
      ap (of_tree c) is_info
      ∙ guarded (has_v2 (kind_of info)) (c info)
      (λ e. none (made_tree settings files made pieces info is (sym (ap has_v2 is_kind) ∙ e)))

  no_both : (c : Data → Bool) → (SidesAgree info → c info ≡ false) → of_both c (info_of root) ≡ false
  no_both c none =
      ap (of_both c) is_info
      ∙ guarded (has_v1 (kind_of info)) _ (λ e. guarded (has_v2 (kind_of info)) (c info)
      (λ f. none (agree (both_sides settings.kind (sym (ap has_v1 is_kind) ∙ e) (sym (ap has_v2 is_kind) ∙ f)))))

  no_layers : (c : Bool) → (has_v2 settings.kind ≡ true → c ≡ false)
      → (has_v2 (kind_of (info_of root)) && c) ≡ false
  no_layers c none =
      guarded (has_v2 (kind_of (info_of root))) c (λ e. none (sym (ap has_v2 (ap kind_of is_info ∙ is_kind)) ∙ e))

  is_layers : has_v2 settings.kind ≡ true → layers.layers_of root ≡ dictionary (piece_layers p facts)
  is_layers two = let found = has.layers ∙ cond-true (has_v2 settings.kind) _ None two in rw found refl

  no_layer_of : (c : ℕ → Data → TreeFile → Bool) → has_v2 settings.kind ≡ true
      → All (λ file. c p (dictionary (piece_layers p facts)) (tree_file file) ≡ false) files
      → list_any (c (piece_length_of (info_of root)) (layers.layers_of root)) (tree_files (info_of root)) ≡ false
  no_layer_of c two none =
      same_any c (piece_length_of (info_of root)) p (layers.layers_of root) (dictionary (piece_layers p facts))
      (tree_files (info_of root)) (map tree_file files)
      (ap piece_length_of is_info ∙ piece_length_told settings facts pieces info is) (is_layers two)
      (ap tree_files is_info ∙ made_tree_files settings files made pieces info is two)
      ∙ no_file (c p (dictionary (piece_layers p facts))) files none

  layers_there : has_v2 settings.kind ≡ true → layers.layers_absent root ≡ false
  layers_there two = let found = has.layers ∙ cond-true (has_v2 settings.kind) _ None two in rw found refl

  abbrev some : Data
  some = dictionary (piece_layers p facts)

  none_holds : (condition : Condition) → holds root condition ≡ false
  none_holds RootShape = not_from_true _ has.dict
  none_holds InfoShape = rw has.info (not_from_true _ dict)
  none_holds MetaVersion = ap heads.meta_version is_info ∙ no_other_version settings facts pieces info is
  none_holds PieceLength =
      ap heads.piece_length is_info ∙ a_piece_length settings facts pieces info is made.piece_length
  none_holds Name = ap heads.name is_info ∙ rw is.name (ap is_some made.name)
  none_holds LengthAndFiles = ap heads.length_and_files is_info ∙ one_of_two settings facts pieces info is
  none_holds FileShape =
      or_from _ _ (no_list lists.list_shape (λ l. l.shape)) (no_tree trees.tree_shape (λ t. t.shape))
  none_holds FileLength =
      or_from _ _ (no_list lists.list_length (λ l. l.lengths)) (no_tree trees.tree_length (λ t. t.lengths))
  none_holds Duplicate = no_list lists.list_duplicate (λ l. l.once)
  none_holds FileAndFolder = no_list lists.list_file_and_folder (λ l. l.flat)
  none_holds NoFiles =
      or_from _ _ (no_list lists.list_no_files (λ l. l.some)) (no_tree trees.tree_no_files (λ t. t.some))
  none_holds TooLarge =
      or_from _ _ (no_list lists.list_too_large (λ l. l.small)) (no_tree trees.tree_too_large (λ t. t.small))
  none_holds Symlink =
      or_from _ _ (no_list lists.list_symlink (λ l. l.link)) (no_tree trees.tree_symlink (λ t. t.link))
  none_holds PiecesLength = no_list lists.list_pieces (λ l. l.sums)
  none_holds MixedNode = no_tree trees.tree_mixed (λ t. t.mixed)
  none_holds RootHash = no_tree trees.tree_root (λ t. t.root)
  none_holds LayersAbsent = no_layers (layers.layers_absent root) layers_there
  none_holds LayerAbsent = no_layers (layers.layer_absent root) (λ two. no_layer_of layers.lacks_layer two
      (λ k d lt. lacks_none p made.piece_length some (get_or files k d) (layers_found settings files made k d lt)))
  none_holds LayerLength = no_layers (layers.layer_length root) (λ two. no_layer_of layers.is_misshaped two
      (λ k d lt. well_shaped p made.piece_length some (get_or files k d) (layers_found settings files made k d lt)))
  none_holds LayerRoot = no_layers (layers.layer_root root) (λ two. no_layer_of layers.has_other_root two
      (λ k d lt. has_own_root p made.piece_length some (get_or files k d) (layers_found settings files made k d lt)))
  none_holds FilesDiffer = no_both files_differ (λ s. s.files)
  none_holds Alignment = no_both alignment (λ s. s.aligned)
  none_holds AttrDiffer = no_both attr_differs (λ s. s.letters)

  pub made_is_accepted : refusal_of root ≡ None
  made_is_accepted = find_none (holds root) conditions none_holds
