-- The lines that tell of a torrent.
use Rattle.std.specs.Prelude.{ℕ, suc, List, [], ◌∷◌, ◌++◌, length, flat_map, decimal, codes, Option, None, Some}
use Rattle.std.specs.List.{join_by}
use Rattle.hex.specs.Hex.{encode_lower}
use Rattle.tor_spec.specs.declared.hashes.Hashes.{Hashes}
use Rattle.tor_spec.specs.valid.View.{FileView, View}
use Rattle.tor_tree.specs.declared.tree_file.TreeFile.{TreeFile}
use Rattle.tor_report.specs.Escape.{escaped}
use Rattle.tor_report.specs.Words.{word_of}

-- the names of a path, a slash between each two
abbrev pub path_text : List (List ℕ) → List ℕ
path_text names = join_by (λ name. name) (codes "/") names

-- the path of a file as it is, and a zero byte, which no path has
abbrev pub ended_path : TreeFile → List ℕ
ended_path file = path_text file.path ++ 0 ∷ []

-- the line of a file: its length and its path
abbrev pub file_line : TreeFile → List ℕ
file_line file = decimal file.length ++ (codes " " ++ (escaped (path_text file.path) ++ codes "\n"))

-- the lines of the torrent as a whole
abbrev pub head_lines : View → List ℕ
head_lines view =
    codes "kind " ++ (word_of view.kind
    ++ (codes "\nname " ++ (escaped view.name
    ++ (codes "\npiece length " ++ (decimal view.piece_length
    ++ (codes "\npieces " ++ (decimal view.piece_count
    ++ (codes "\nfiles " ++ (decimal (length view.files) ++ codes "\n")))))))))

-- no line where there is no hash
abbrev pub hash_line : List ℕ → Option (List ℕ) → List ℕ
hash_line before None = []
hash_line before (Some hash) = before ++ (encode_lower hash ++ codes "\n")

-- a hash of version 1, and one of version 2 as a multihash: 12 says SHA-256, 20 its 32 bytes
abbrev pub hash_lines : Hashes → List ℕ
hash_lines hashes = hash_line (codes "btih ") hashes.v1 ++ hash_line (codes "btmh 1220") hashes.v2

-- the lines of `tor check`: numbers in base ten, hashes in lower-case digits. They tell of the torrent as a whole, its
-- files in their order, its hashes (BEP 52, "magnet links"; profile)
abbrev pub check_lines : View → Hashes → List ℕ
check_lines view hashes =
    head_lines view ++ (flat_map (λ shown. file_line shown.file) view.files ++ hash_lines hashes)

-- the line of the root of the file with this number; no line where there is no root
abbrev pub root_line : ℕ → Option (List ℕ) → List ℕ
root_line number None = []
root_line number (Some root) = codes "root " ++ (encode_lower root ++ (codes " " ++ (decimal number ++ codes "\n")))

-- those of files, the first of which has this number
abbrev pub root_lines : ℕ → List FileView → List ℕ
root_lines number [] = []
root_lines number (shown ∷ files) = root_line number shown.file.root ++ root_lines (suc number) files

-- the lines of `tor check --roots`: those of `check`, and then a line for each file that has a root, with the number of
-- the file. The first file is 0 (BEP 52, "pieces root"; profile)
abbrev pub rooted_lines : View → Hashes → List ℕ
rooted_lines view hashes = check_lines view hashes ++ root_lines 0 view.files

-- what `tor check --null` prints: the paths of the files in their order, each ended
abbrev pub ended_paths : View → List ℕ
ended_paths view = flat_map (λ shown. ended_path shown.file) view.files
