-- What a key that is no name is for its tree, for the clause of one conversion.
use Rattle.std.specs.Prelude.{◌≡◌}
use Rattle.tor_tree.specs.declared.names.NameError.{NameError}
use Rattle.tor_tree.specs.declared.names.NameError.TheVariants as names
use Rattle.tor_tree.specs.declared.tree_file.TreeFault.{TreeFault}
use Rattle.tor_tree.specs.declared.tree_file.TreeFault.TheVariants as trees

abbrev pub fault_of_key : NameError → TreeFault → Type 0
fault_of_key names.Memory fault = fault ≡ trees.Memory
fault_of_key names.Empty fault = fault ≡ trees.Shape
fault_of_key names.Dot fault = fault ≡ trees.Shape
fault_of_key names.DotDot fault = fault ≡ trees.Shape
fault_of_key names.Slash fault = fault ≡ trees.Shape
fault_of_key names.Nul fault = fault ≡ trees.Shape
fault_of_key names.NotUtf8 fault = fault ≡ trees.Shape
