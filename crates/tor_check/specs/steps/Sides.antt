-- The two sides of a torrent judged together.
use Rattle.std.specs.Prelude.{◌≡◌, ℕ, Bool, false, ◌||◌, List, [], find, nat_eq, nat_le, true, Option, None, Some}
use Rattle.std.specs.Prelude.{if◌then◌else◌}
use Rattle.tor_bencode.specs.Data.{Data}
use Rattle.tor_check.specs.Refusals.{refusal_for}
use Rattle.tor_check.specs.steps.Listed.{all_listed, first_of_list, side_conditions, takes_files}
use Rattle.tor_check.specs.declared.refusal.Refusal.{Refusal}
use Rattle.tor_check.specs.declared.refusal.Refusal.TheVariants as refusals
use Rattle.tor_check.specs.declared.listed.Listed.{Listed}
use Rattle.tor_check.specs.declared.sides.Sides.{Sides}
use Rattle.tor_tree.specs.declared.tree_file.TreeFile.{TreeFile}
use Rattle.tor_spec.specs.valid.Conditions.{Condition, holds, of_list, of_tree}
use Rattle.tor_spec.specs.valid.Conditions as conditions
use Rattle.tor_spec.specs.valid.ListSide.{side_size}
use Rattle.tor_spec.specs.valid.Parts.{kind_of}
use Rattle.tor_spec.specs.valid.TreeSide.{tree_files, tree_length, tree_mixed, tree_no_files, tree_root, tree_shape}
use Rattle.tor_spec.specs.valid.TreeSide.{tree_of, tree_symlink, tree_too_large}
use Rattle.tor_tree.specs.FileTree.{takes_memory}
use Rattle.tor_tree.specs.Kinds.{has_v1, has_v2}

-- the condition holds of the v2 side
abbrev pub tree_holds : Data → Condition → Bool
tree_holds info conditions.FileShape = tree_shape info
tree_holds info conditions.FileLength = tree_length info
tree_holds info conditions.NoFiles = tree_no_files info
tree_holds info conditions.TooLarge = tree_too_large info
tree_holds info conditions.Symlink = tree_symlink info
tree_holds info conditions.MixedNode = tree_mixed info
tree_holds info conditions.RootHash = tree_root info
tree_holds info other = false

-- the first of V8 to V17 that holds of the v2 side
abbrev pub first_of_tree : Data → Option Condition
first_of_tree info = find (tree_holds info) side_conditions

-- the first of V8 to V17 that holds
abbrev pub first_of_sides : Data → Option Condition
first_of_sides root = find (holds root) side_conditions

-- the number of a refusal
abbrev pub number_of : Refusal → ℕ
number_of (refusals.Bencode fault offset) = 1
number_of refusals.RootShape = 2
number_of refusals.InfoShape = 3
number_of refusals.MetaVersion = 4
number_of refusals.PieceLength = 5
number_of refusals.Name = 6
number_of refusals.LengthAndFiles = 7
number_of refusals.FileShape = 8
number_of refusals.FileLength = 9
number_of refusals.Duplicate = 10
number_of refusals.FileAndFolder = 11
number_of refusals.NoFiles = 12
number_of refusals.TooLarge = 13
number_of refusals.Symlink = 14
number_of refusals.PiecesLength = 15
number_of refusals.MixedNode = 16
number_of refusals.RootHash = 17
number_of refusals.LayersAbsent = 18
number_of refusals.LayerAbsent = 19
number_of refusals.LayerLength = 20
number_of refusals.LayerRoot = 21
number_of refusals.FilesDiffer = 22
number_of refusals.Alignment = 23
number_of refusals.Memory = 24
number_of refusals.AttrDiffer = 25

-- the one of the lesser number
abbrev pub earlier : Condition → Condition → Condition
earlier one other = if nat_le (number_of (refusal_for one)) (number_of (refusal_for other)) then one else other

abbrev pub earliest : Option Condition → Option Condition → Option Condition
earliest None other = other
earliest (Some one) None = Some one
earliest (Some one) (Some other) = Some (earlier one other)

-- the first condition of a side, if it is there
abbrev pub list_if : Data → Option Condition
list_if info = if has_v1 (kind_of info) then first_of_list info else None

abbrev pub tree_if : Data → Option Condition
tree_if info = if has_v2 (kind_of info) then first_of_tree info else None

-- the first condition of the sides that are there
abbrev pub first_of_both : Data → Option Condition
first_of_both info = earliest (list_if info) (tree_if info)

-- what is read of a side that is not there is empty
abbrev pub listed_if : Data → List Listed
listed_if info = if has_v1 (kind_of info) then all_listed info else []

abbrev pub files_if : Data → List TreeFile
files_if info = if has_v2 (kind_of info) then tree_files info else []

-- to read the file tree takes memory
abbrev pub takes_tree : Data → Bool
takes_tree info = takes_memory (tree_of info)

-- to read the sides that are there takes memory
abbrev pub takes_sides : Data → Bool
takes_sides info = of_list takes_files info || of_tree takes_tree info

pub record AreSidesOf (info : Data) (sides : Sides) : Type 0 where
  pub listed : sides.list.files.items ≡ listed_if info
  pub size : has_v1 (kind_of info) ≡ true → sides.list.size ≡ side_size info
  pub files : sides.files.items ≡ files_if info

-- the refusal of the lesser number; want of memory, where one is that
abbrev pub earlier_refusal : Refusal → Refusal → Refusal
earlier_refusal one other =
    if nat_eq (number_of one) 24 then refusals.Memory else (
    if nat_eq (number_of other) 24 then refusals.Memory else (
    if nat_le (number_of one) (number_of other) then one else other))
