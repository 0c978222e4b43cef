-- Where the two sides of a hybrid describe the same files at the same offsets, with the same letters (BEP 52, "Upgrade
-- Path"; BEP 47, "padding files" and "attr").
use Rattle.std.specs.Prelude.{◌≡◌, ℕ, ◌==◌, Bool, false, not, ◌&&◌, ◌||◌, List, [], ◌∷◌, ◌++◌, map, filter, find}
use Rattle.std.specs.Prelude.{reverse, sum_by, nat_lt, ◌+◌}
use Rattle.std.specs.Prelude.{unwrap_or, option_map, if◌then◌else◌}
use Rattle.std.specs.Bool.{beq}
use Rattle.std.specs.Cmp.Lexicographic.{pointwise}
use Rattle.std.specs.Int.{next_multiple_of}
use Rattle.std.specs.List.{list_any, zip}
use Rattle.tor_bencode.specs.Data.{Data}
use Rattle.tor_tree.specs.Path.{path_eq}
use Rattle.tor_tree.specs.declared.tree_file.TreeFile.{TreeFile}
use Rattle.tor_v1.specs.Entries.{padding_length}
use Rattle.tor_spec.specs.valid.ListSide.{ListedFile, joined_size, listed_files, side_files}
use Rattle.tor_spec.specs.valid.Parts.{piece_length_of}
use Rattle.tor_spec.specs.valid.TreeSide.{tree_files}

-- paths and lengths of the files of the v1 side, without its padding; of the v2 side
abbrev pub listed_by_list : Data → List (List (List ℕ) × ℕ)
listed_by_list info = map (λ file. (file.path, file.size)) (listed_files info)

abbrev pub listed_by_tree : Data → List (List (List ℕ) × ℕ)
listed_by_tree info = map (λ file. (file.path, file.length)) (tree_files info)

abbrev pub same_files : List (List (List ℕ) × ℕ) → List (List (List ℕ) × ℕ) → Bool
same_files = pointwise (λ one other. path_eq one.0 other.0 && one.1 == other.1)

-- V22: the two sides' files differ in path, length or order (BEP 52, "Upgrade Path")
abbrev pub files_differ : Data → Bool
files_differ info = not (same_files (listed_by_list info) (listed_by_tree info))

-- a file that is no padding and not empty
abbrev pub is_filled : ListedFile → Bool
is_filled file = not file.pad && nat_lt 0 file.size

-- where a file is to begin that these come before: each of them is rounded up to a multiple of the piece length
abbrev pub aligned_after : ℕ → List ListedFile → ℕ
aligned_after piece_length earlier =
    sum_by (λ file. next_multiple_of file.size piece_length) (filter is_filled earlier)

-- some filled file does not begin there in the joined list; these come before the list
abbrev pub is_misaligned_after : ℕ → List ListedFile → List ListedFile → Bool
is_misaligned_after piece_length earlier [] = false
is_misaligned_after piece_length earlier (file ∷ later) =
    (is_filled file && not (joined_size earlier == aligned_after piece_length earlier))
    || is_misaligned_after piece_length (earlier ++ file ∷ []) later

-- how many bytes the last filled file has; 0 where every file is empty
abbrev pub last_size : List ListedFile → ℕ
last_size files = unwrap_or (option_map (λ file. file.size) (find is_filled (reverse files))) 0

-- how many bytes come before the first filled file; all bytes where there is none
abbrev pub size_before : List ListedFile → ℕ
size_before [] = 0
size_before (file ∷ files) = if is_filled file then 0 else size_before files + file.size

-- how many bytes of padding come after the last filled file; all padding where every file is empty
abbrev pub tail_size : List ListedFile → ℕ
tail_size files = size_before (reverse files)

-- there is none, or just what that file lacks to a multiple of the piece length
abbrev pub has_wrong_tail : ℕ → List ListedFile → Bool
has_wrong_tail piece_length files =
    not (tail_size files == 0 || tail_size files == padding_length piece_length (last_size files))

-- V23: a filled file begins at no piece of its own, or the padding at the end is wrong. That is then of another length
-- (BEP 52, "Upgrade Path"; BEP 47, "padding files")
abbrev pub alignment : Data → Bool
alignment info =
    is_misaligned_after (piece_length_of info) [] (side_files info)
    || has_wrong_tail (piece_length_of info) (side_files info)

-- `attr` is there on both sides, and an `x` or an `h` on one of them alone
abbrev pub letters_differ : ListedFile → TreeFile → Bool
letters_differ listed file =
    (listed.has_attr && file.has_attr) && (not (beq listed.exec file.exec) || not (beq listed.hidden file.hidden))

abbrev pub some_letters_differ : List ListedFile → List TreeFile → Bool
some_letters_differ listed files = list_any (λ pair. letters_differ pair.0 pair.1) (zip listed files)

-- V25: a file with `attr` on both sides has other letters on one (BEP 47, "attr")
abbrev pub attr_differs : Data → Bool
attr_differs info = some_letters_differ (listed_files info) (tree_files info)
