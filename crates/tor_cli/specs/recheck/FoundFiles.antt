-- What is printed of the files of a torrent after a recheck.
use Rattle.std.specs.Prelude.{ℕ, Bool, nat_lt, length, slice_index_or, slice_set, true, false, List, [], ◌∷◌, ◌++◌, flat_map, decimal, codes, Option, None, Some}
use Rattle.std.specs.Prelude.{if◌then◌else◌}
use Rattle.std.specs.List.{zip}
use Rattle.tor_view.specs.declared.files.FileFound.{FileFound}
use Rattle.tor_view.specs.declared.files.FileState.{FileState}
use Rattle.tor_view.specs.declared.files.FileState.TheVariants.{Missing, Short, Bad, Whole, Unreadable, Link}
use Rattle.tor_spec.specs.valid.View.{FileView}
use Rattle.tor_tree.specs.declared.tree_file.TreeFile.{TreeFile}
use Rattle.tor_report.specs.Escape.{escaped}
use Rattle.tor_report.specs.Shown.{ended_path, path_text}
use Rattle.tor_cli.specs.declared.recheck.listing.FileListing.{FileListing}
use Rattle.tor_cli.specs.declared.recheck.listing.FileListing.TheVariants.{Pieces, Files, BadFiles, BadPaths}

-- the word for a state
abbrev pub state_word : FileState → List ℕ
state_word Missing = codes "missing"
state_word Short = codes "short"
state_word Bad = codes "bad"
state_word Whole = codes "whole"
state_word Unreadable = codes "unreadable"
state_word Link = codes "link"

-- what is told of a file of which nothing is told
abbrev pub nothing_told : FileFound
nothing_told = record { state = Missing; good = 0; pieces = 0; there = None; told = 0 }

-- what is told of files, if the one of this number has a state that its pieces do not tell
abbrev pub state_at : FileState → ℕ → List FileFound → List FileFound
state_at state file found =
    if nat_lt file (length found)
    then slice_set found file (record (slice_index_or found file nothing_told) { state = state }) else found

-- what is told of files, of which those of these numbers have this state (profile)
abbrev pub with_state : FileState → List ℕ → List FileFound → List FileFound
with_state state [] found = found
with_state state (file ∷ files) found = with_state state files (state_at state file found)

-- a length in bytes; a hyphen where there is none
abbrev pub length_text : Option ℕ → List ℕ
length_text None = codes "-"
length_text (Some length) = decimal length

-- the line of a file after a recheck: state, pieces that hold, all pieces, length there, length told, path (profile)
abbrev pub found_line : FileFound → TreeFile → List ℕ
found_line found file =
    state_word found.state ++ (codes " " ++ (decimal found.good ++ (codes " " ++ (decimal found.pieces
    ++ (codes " " ++ (length_text found.there ++ (codes " " ++ (decimal found.told
    ++ (codes " " ++ (escaped (path_text file.path) ++ codes "\n"))))))))))

abbrev pub is_whole : FileState → Bool
is_whole Whole = true
is_whole other = false

-- what is printed of a file
abbrev pub told_of : FileListing → FileFound → TreeFile → List ℕ
told_of Pieces found file = []
told_of Files found file = found_line found file
told_of BadFiles found file = if is_whole found.state then [] else found_line found file
told_of BadPaths found file = if is_whole found.state then [] else ended_path file

-- the same of what was found and the file that it was found of
abbrev pub told_of_pair : FileListing → FileFound × FileView → List ℕ
told_of_pair listing pair = told_of listing pair.0 pair.1.file

-- what is listed of the files: a line for each, or each not whole, or these paths alone. They are in the torrent's
-- order (profile)
abbrev pub told_of_files : FileListing → List FileFound → List FileView → List ℕ
told_of_files listing found files = flat_map (told_of_pair listing) (zip found files)
