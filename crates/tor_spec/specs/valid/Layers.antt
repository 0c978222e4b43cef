-- The piece layers of a foreign torrent (BEP 52, "piece layers"), and conditions on them.
use Rattle.std.specs.Prelude.{ℕ, ◌*◌, ◌/◌, ◌==◌, Bool, not, ◌&&◌, List, [], length, nat_lt, codes}
use Rattle.std.specs.Prelude.{Option, None, Some, is_none, unwrap_or}
use Rattle.std.specs.Int.{div_ceil}
use Rattle.std.specs.List.{list_any}
use Rattle.std.specs.Simd.{first_chunks}
use Rattle.std.specs.Str.{bytes_eq}
use Rattle.tor_bencode.specs.Data.{Data}
use Rattle.tor_bencode.specs.Find.{value_of}
use Rattle.tor_merkle.specs.Layer.{piece_level}
use Rattle.tor_merkle.specs.Stack.{padded_root}
use Rattle.tor_tree.specs.FileTree.{is_dictionary}
use Rattle.tor_tree.specs.Properties.{as_string}
use Rattle.tor_tree.specs.declared.tree_file.TreeFile.{TreeFile}
use Rattle.tor_spec.specs.valid.Parts.{info_of, part, piece_length_of}
use Rattle.tor_spec.specs.valid.TreeSide.{tree_files}

-- a file longer than one piece, which alone has a layer
abbrev pub is_long : ℕ → TreeFile → Bool
is_long piece_length file = nat_lt piece_length file.length

abbrev pub root_of_file : TreeFile → List ℕ
root_of_file file = unwrap_or file.root []

-- the joined hashes that the layers have for a file
abbrev pub layer_text : Data → TreeFile → Option (List ℕ)
layer_text layers file = as_string (value_of (root_of_file file) layers)

-- a text cut every 32 bytes
abbrev pub hashes_in : List ℕ → List (List ℕ)
hashes_in text = first_chunks 32 (length text / 32) text

-- the layer of a file
abbrev pub layer_of : Data → TreeFile → List (List ℕ)
layer_of layers file = hashes_in (unwrap_or (layer_text layers file) [])

-- how many pieces a file of this length has
abbrev pub pieces_in : ℕ → ℕ → ℕ
pieces_in piece_length size = div_ceil size piece_length

-- layers are there and no dictionary, or absent and some file is long
abbrev pub lacks_layers : ℕ → List TreeFile → Option Data → Bool
lacks_layers piece_length files None = list_any (is_long piece_length) files
lacks_layers piece_length files (Some layers) = not (is_dictionary layers)

-- the root of a long file is no key of the layers, or its value is no byte string
abbrev pub lacks_layer : ℕ → Data → TreeFile → Bool
lacks_layer piece_length layers file = is_long piece_length file && is_none (layer_text layers file)

-- the layer of a long file is not 32 bytes for each piece
abbrev pub is_misshaped : ℕ → Data → TreeFile → Bool
is_misshaped piece_length layers file =
    is_long piece_length file
    && not (length (unwrap_or (layer_text layers file) []) == 32 * pieces_in piece_length file.length)

-- the root of a long file's layer, widened by the zero subtrees of one piece, is not the file's root
abbrev pub has_other_root : ℕ → Data → TreeFile → Bool
has_other_root piece_length layers file =
    is_long piece_length file
    && not (bytes_eq (padded_root (piece_level piece_length) (layer_of layers file)) (root_of_file file))

abbrev pub layers_of : Data → Data
layers_of root = part (codes "piece layers") root

-- V18: `piece layers` is no dictionary, or absent if it is needed. It is needed if some file is longer than a piece
-- (BEP 52, "piece layers")
abbrev pub layers_absent : Data → Bool
layers_absent root =
    lacks_layers (piece_length_of (info_of root)) (tree_files (info_of root)) (value_of (codes "piece layers") root)

-- V19: the root of a long file is no key there, or its value no byte string. A long file is longer than a piece (BEP
-- 52, "piece layers")
abbrev pub layer_absent : Data → Bool
layer_absent root =
    list_any (lacks_layer (piece_length_of (info_of root)) (layers_of root)) (tree_files (info_of root))

-- V20: that value is not 32 bytes for each piece of the file (BEP 52, "piece layers")
abbrev pub layer_length : Data → Bool
layer_length root =
    list_any (is_misshaped (piece_length_of (info_of root)) (layers_of root)) (tree_files (info_of root))

-- V21: the root of that layer, widened, is not the file's. It is widened by the zero subtrees of one piece (BEP 52,
-- "piece layers")
abbrev pub layer_root : Data → Bool
layer_root root =
    list_any (has_other_root (piece_length_of (info_of root)) (layers_of root)) (tree_files (info_of root))
