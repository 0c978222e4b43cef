-- Which bytes are a torrent: the spelling of a tree of which none of 23 conditions holds.
use Rattle.std.specs.Prelude.{◌≡◌, ℕ, Bool, ◌&&◌, ◌||◌, List, [], ◌∷◌, find, Option, None}
use Rattle.tor_bencode.specs.Data.{Data}
use Rattle.tor_bencode.specs.Lawful.{IsLawful}
use Rattle.tor_bencode.specs.Spelling.{spelling}
use Rattle.tor_tree.specs.Kinds.{has_v1, has_v2}
use Rattle.tor_spec.specs.valid.Heads as heads
use Rattle.tor_spec.specs.valid.ListSide as lists
use Rattle.tor_spec.specs.valid.TreeSide as trees
use Rattle.tor_spec.specs.valid.Layers as layers
use Rattle.tor_spec.specs.valid.SidesAgree as sides
use Rattle.tor_spec.specs.valid.Parts.{info_of, kind_of}

-- why a tree is no torrent: V2 to V23, and V25
pub data Condition : Type 0 where
  RootShape : Condition
  InfoShape : Condition
  MetaVersion : Condition
  PieceLength : Condition
  Name : Condition
  LengthAndFiles : Condition
  FileShape : Condition
  FileLength : Condition
  Duplicate : Condition
  FileAndFolder : Condition
  NoFiles : Condition
  TooLarge : Condition
  Symlink : Condition
  PiecesLength : Condition
  MixedNode : Condition
  RootHash : Condition
  LayersAbsent : Condition
  LayerAbsent : Condition
  LayerLength : Condition
  LayerRoot : Condition
  FilesDiffer : Condition
  Alignment : Condition
  AttrDiffer : Condition

-- in the order in which they are answered
abbrev pub conditions : List Condition
conditions =
    RootShape ∷ InfoShape ∷ MetaVersion ∷ PieceLength ∷ Name ∷ LengthAndFiles ∷ FileShape ∷ FileLength ∷
    Duplicate ∷ FileAndFolder ∷ NoFiles ∷ TooLarge ∷ Symlink ∷ PiecesLength ∷ MixedNode ∷ RootHash ∷
    LayersAbsent ∷ LayerAbsent ∷ LayerLength ∷ LayerRoot ∷ FilesDiffer ∷ Alignment ∷ AttrDiffer ∷ []

-- there is a v1 side of which it holds
abbrev pub of_list : (Data → Bool) → Data → Bool
of_list condition info = has_v1 (kind_of info) && condition info

-- there is a v2 side of which it holds
abbrev pub of_tree : (Data → Bool) → Data → Bool
of_tree condition info = has_v2 (kind_of info) && condition info

-- there are both sides, of which it holds
abbrev pub of_both : (Data → Bool) → Data → Bool
of_both condition info = of_list (of_tree condition) info

-- the condition holds of the tree
abbrev pub holds : Data → Condition → Bool
holds root RootShape = heads.root_shape root
holds root InfoShape = heads.info_shape root
holds root MetaVersion = heads.meta_version (info_of root)
holds root PieceLength = heads.piece_length (info_of root)
holds root Name = heads.name (info_of root)
holds root LengthAndFiles = heads.length_and_files (info_of root)
holds root FileShape = of_list lists.list_shape (info_of root) || of_tree trees.tree_shape (info_of root)
holds root FileLength = of_list lists.list_length (info_of root) || of_tree trees.tree_length (info_of root)
holds root Duplicate = of_list lists.list_duplicate (info_of root)
holds root FileAndFolder = of_list lists.list_file_and_folder (info_of root)
holds root NoFiles = of_list lists.list_no_files (info_of root) || of_tree trees.tree_no_files (info_of root)
holds root TooLarge = of_list lists.list_too_large (info_of root) || of_tree trees.tree_too_large (info_of root)
holds root Symlink = of_list lists.list_symlink (info_of root) || of_tree trees.tree_symlink (info_of root)
holds root PiecesLength = of_list lists.list_pieces (info_of root)
holds root MixedNode = of_tree trees.tree_mixed (info_of root)
holds root RootHash = of_tree trees.tree_root (info_of root)
holds root LayersAbsent = has_v2 (kind_of (info_of root)) && layers.layers_absent root
holds root LayerAbsent = has_v2 (kind_of (info_of root)) && layers.layer_absent root
holds root LayerLength = has_v2 (kind_of (info_of root)) && layers.layer_length root
holds root LayerRoot = has_v2 (kind_of (info_of root)) && layers.layer_root root
holds root FilesDiffer = of_both sides.files_differ (info_of root)
holds root Alignment = of_both sides.alignment (info_of root)
holds root AttrDiffer = of_both sides.attr_differs (info_of root)

-- why a tree is no torrent: the first of V2 to V23 and V25 that holds. Which there are, and in which order, is this
-- profile's (BEP 3, "info dictionary"; BEP 52, "info dictionary"; BEP 47, "attr"; profile)
abbrev pub refusal_of : Data → Option Condition
refusal_of root = find (holds root) conditions

-- the bytes spell this tree, of which no condition holds
pub record IsTorrentOf (root : Data) (bytes : List ℕ) : Type 0 where
  pub lawful : IsLawful root
  pub spelled : bytes ≡ spelling root
  pub accepted : refusal_of root ≡ None

-- the bytes spell a lawful tree, of which none holds (profile)
abbrev pub IsValid : List ℕ → Type 0
IsValid bytes = (root : Data) × IsTorrentOf root bytes
