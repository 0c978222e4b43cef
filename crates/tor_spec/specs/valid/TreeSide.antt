-- The v2 side of a foreign torrent (BEP 52, "file tree"): what it says of its files, and conditions on it.
use Rattle.std.specs.Prelude.{◌==◌, Bool, true, not, List, length, map, codes, Option, None, Some}
use Rattle.std.specs.List.{list_any}
use Rattle.tor_bencode.specs.Data.{Data}
use Rattle.tor_bencode.specs.Find.{value_of}
use Rattle.tor_tree.specs.FileList.{lengths_too_large}
use Rattle.tor_tree.specs.FileTree.{files_of_tree, is_folder, lacks_root, properties_in, tree_mixes}
use Rattle.tor_tree.specs.Properties.{has_letter, has_negative_length, length_of, letter_l}
use Rattle.tor_tree.specs.declared.tree_file.TreeFile.{TreeFile}
use Rattle.tor_spec.specs.valid.Parts.{part}

abbrev pub tree_of : Data → Data
tree_of info = part (codes "file tree") info

-- the files in the order of the tree's keys (BEP 52, "file tree")
abbrev pub tree_files : Data → List TreeFile
tree_files info = files_of_tree (tree_of info)

abbrev pub lacks_folder : Option Data → Bool
lacks_folder None = true
lacks_folder (Some tree) = not (is_folder tree)

-- V8 of the v2 side: `file tree` is no dictionary, or something below has not its shape. It is absent or no dictionary;
-- below it a value of a non-empty key is no dictionary, a non-empty key is no name, or a value of the empty key has not
-- the shape of properties (BEP 52, "file tree")
abbrev pub tree_shape : Data → Bool
tree_shape info = lacks_folder (value_of (codes "file tree") info)

-- V9 of the v2 side: a length is negative (BEP 52, "file tree")
abbrev pub tree_length : Data → Bool
tree_length info = list_any has_negative_length (properties_in (tree_of info))

-- V12 of the v2 side: the tree holds no file (profile)
abbrev pub tree_no_files : Data → Bool
tree_no_files info = length (properties_in (tree_of info)) == 0

-- V13 of the v2 side: a length is too large, or the rounded lengths are (profile)
abbrev pub tree_too_large : Data → Bool
tree_too_large info = lengths_too_large (map length_of (properties_in (tree_of info)))

-- V14 of the v2 side: an `attr` has the letter of a symbolic link (BEP 47, "attr"; profile)
abbrev pub tree_symlink : Data → Bool
tree_symlink info = list_any (has_letter letter_l) (properties_in (tree_of info))

-- V16: the empty key stands at the top, or beside another. The tree itself has it, or a dictionary below it has it and
-- another (BEP 52, "file tree")
abbrev pub tree_mixed : Data → Bool
tree_mixed info = tree_mixes (tree_of info)

-- V17: a file that is not empty has no `pieces root` of 32 bytes (BEP 52, "file tree")
abbrev pub tree_root : Data → Bool
tree_root info = list_any lacks_root (properties_in (tree_of info))
