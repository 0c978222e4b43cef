-- Which refusal tells a condition, a fault of a list, a fault of a file tree.
use Rattle.tor_spec.specs.valid.Conditions.{Condition}
use Rattle.tor_spec.specs.valid.Conditions as conditions
use Rattle.tor_tree.specs.declared.lists.ListError.{ListError}
use Rattle.tor_tree.specs.declared.lists.ListError.TheVariants as lists
use Rattle.tor_tree.specs.declared.tree_file.TreeFault.{TreeFault}
use Rattle.tor_tree.specs.declared.tree_file.TreeFault.TheVariants as trees
use Rattle.tor_check.specs.declared.refusal.Refusal.{Refusal}
use Rattle.tor_check.specs.declared.refusal.Refusal.TheVariants as refusals

-- the refusal that has the name of the condition
abbrev pub refusal_for : Condition → Refusal
refusal_for conditions.RootShape = refusals.RootShape
refusal_for conditions.InfoShape = refusals.InfoShape
refusal_for conditions.MetaVersion = refusals.MetaVersion
refusal_for conditions.PieceLength = refusals.PieceLength
refusal_for conditions.Name = refusals.Name
refusal_for conditions.LengthAndFiles = refusals.LengthAndFiles
refusal_for conditions.FileShape = refusals.FileShape
refusal_for conditions.FileLength = refusals.FileLength
refusal_for conditions.Duplicate = refusals.Duplicate
refusal_for conditions.FileAndFolder = refusals.FileAndFolder
refusal_for conditions.NoFiles = refusals.NoFiles
refusal_for conditions.TooLarge = refusals.TooLarge
refusal_for conditions.Symlink = refusals.Symlink
refusal_for conditions.PiecesLength = refusals.PiecesLength
refusal_for conditions.MixedNode = refusals.MixedNode
refusal_for conditions.RootHash = refusals.RootHash
refusal_for conditions.LayersAbsent = refusals.LayersAbsent
refusal_for conditions.LayerAbsent = refusals.LayerAbsent
refusal_for conditions.LayerLength = refusals.LayerLength
refusal_for conditions.LayerRoot = refusals.LayerRoot
refusal_for conditions.FilesDiffer = refusals.FilesDiffer
refusal_for conditions.Alignment = refusals.Alignment
refusal_for conditions.AttrDiffer = refusals.AttrDiffer

-- what a fault of a list is for a torrent
abbrev pub of_list_error : ListError → Refusal
of_list_error lists.NoFiles = refusals.NoFiles
of_list_error lists.Duplicate = refusals.Duplicate
of_list_error lists.FileAndFolder = refusals.FileAndFolder
of_list_error lists.TooLarge = refusals.TooLarge
of_list_error lists.Memory = refusals.Memory

-- what a fault of a file tree is for a torrent
abbrev pub of_tree_fault : TreeFault → Refusal
of_tree_fault trees.Shape = refusals.FileShape
of_tree_fault trees.Length = refusals.FileLength
of_tree_fault trees.Empty = refusals.NoFiles
of_tree_fault trees.TooLarge = refusals.TooLarge
of_tree_fault trees.Symlink = refusals.Symlink
of_tree_fault trees.Mixed = refusals.MixedNode
of_tree_fault trees.Root = refusals.RootHash
of_tree_fault trees.Memory = refusals.Memory
