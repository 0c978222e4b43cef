-- What is told of a file of the tree.
use Rattle.std.specs.Prelude.{ℕ, List, [], if◌then◌else◌}
use Rattle.tor_bencode.specs.Data.{Data}
use Rattle.tor_spec.specs.valid.Layers.{is_long, layer_of}
use Rattle.tor_spec.specs.valid.View.{FileView}
use Rattle.tor_tree.specs.declared.tree_file.TreeFile.{TreeFile}

abbrev pub layer_for : ℕ → Data → TreeFile → List (List ℕ)
layer_for piece_length layers file = if is_long piece_length file then layer_of layers file else []

-- a file with its layer
abbrev pub viewed : ℕ → Data → TreeFile → FileView
viewed piece_length layers file = record { file = file; layer = layer_for piece_length layers file }
