-- What the layers are seen as, and what is kept of them by the index of a root among their keys.
use Rattle.std.specs.Prelude.{◌≡◌, ◌||◌, ℕ, Bool, true, List, [], Option, Some, IfSome, option_map, slice_get}
use Rattle.std.specs.Prelude.{unwrap_or}
use Rattle.std.specs.Arc.{arc_slice_items}
use Rattle.std.specs.Str.{bytes_eq}
use Rattle.std.specs.declared.alloc.Global.{Global}
use Rattle.std.specs.declared.sync.ArcSlice.{ArcSlice}
use Rattle.tor_bencode.specs.Data.{Data, dictionary, no_pairs}
use Rattle.tor_bencode.specs.Find.{keys_in, value_of}
use Rattle.tor_bencode.specs.RefView.{view}
use Rattle.tor_check.specs.declared.layer_keys.Layers.{Layers}
use Rattle.tor_merkle.specs.Layer.{piece_level}
use Rattle.tor_merkle.specs.Stack.{padded_root}
use Rattle.tor_spec.specs.valid.Layers.{has_other_root, hashes_in, is_misshaped}
use Rattle.tor_tree.specs.Properties.{as_string}
use Rattle.tor_tree.specs.declared.tree_file.TreeFile.{TreeFile}

-- where the layers are absent, an empty dictionary
abbrev pub seen : Layers → Data
seen layers = unwrap_or (option_map (λ item. view item.now) layers.item) (dictionary no_pairs)

-- the hashes of a layer; without a layer none
abbrev pub hashes_of : Option (ArcSlice (List ℕ) Global) → List (List ℕ)
hashes_of layer = unwrap_or (option_map arc_slice_items layer) []

-- the layer of the files that have this root
abbrev pub layer_of_root : Data → List ℕ → List (List ℕ)
layer_of_root layers root = hashes_in (unwrap_or (as_string (value_of root layers)) [])

-- the layer of a long file is not one hash for each piece, or has not the file's root
abbrev pub has_faulty_layer : ℕ → Data → TreeFile → Bool
has_faulty_layer piece_length layers file =
    is_misshaped piece_length layers file || has_other_root piece_length layers file

-- what is kept at the index of a root is fit for it
abbrev pub IsKept : {X : Type 0} → (List ℕ → X → Type 0) → Data → List X → Type 0
IsKept {X} IsFit layers kept =
    (i : ℕ) (root : List ℕ) (x : X) → slice_get (keys_in layers) i ≡ Some root → slice_get kept i ≡ Some x
    → IsFit root x

-- a root with a mark is that of its layer
abbrev pub IsJudged : ℕ → Data → List ℕ → Bool → Type 0
IsJudged piece_length layers root mark =
    mark ≡ true → bytes_eq (padded_root (piece_level piece_length) (layer_of_root layers root)) root ≡ true

-- a layer that is kept for a root is that of its files
abbrev pub IsShared : Data → List ℕ → Option (ArcSlice (List ℕ) Global) → Type 0
IsShared layers root kept = IfSome kept (λ layer. arc_slice_items layer ≡ layer_of_root layers root)
