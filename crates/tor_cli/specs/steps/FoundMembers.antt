-- The members of the object that a recheck prints, before that of the files and after it, and those of a file. Only
-- private clauses cite this.
use Rattle.std.specs.Prelude.{ℕ, Bool, false, true, not, List, [], ◌++◌, length, codes, decimal, Some}
use Rattle.json.specs.Print.{quoted}
use Rattle.serde_json.specs.Written.{compact_text}
use Rattle.tor_spec.specs.declared.hashes.Hashes.{Hashes}
use Rattle.tor_view.specs.Bitfield.{set_count}
use Rattle.tor_view.specs.declared.files.FileFound.{FileFound}
use Rattle.tor_view.specs.declared.files.FileState.{FileState}
use Rattle.tor_report.specs.Records.{hash_data, path_data}
use Rattle.tor_report.specs.Words.{word_of}
use Rattle.tor_spec.specs.valid.View.{View}
use Rattle.tor_tree.specs.declared.tree_file.TreeFile.{TreeFile}
use Rattle.tor_cli.specs.recheck.FoundFiles.{is_whole, state_word}
use Rattle.tor_cli.specs.text.Records.{length_data}
use Rattle.tor_cli.specs.declared.recheck.listing.FileListing.{FileListing}
use Rattle.tor_cli.specs.declared.recheck.listing.FileListing.TheVariants.{Pieces, Files, BadFiles, BadPaths}

-- up to the value of `files`; the bits are packed
abbrev pub before_files : List ℕ → Hashes → List ℕ
before_files packed hashes =
    codes "{\"bits\":" ++ (compact_text (hash_data [] (Some packed))
    ++ (codes ",\"btih\":" ++ (compact_text (hash_data [] hashes.v1)
    ++ (codes ",\"btmh\":" ++ (compact_text (hash_data (codes "1220") hashes.v2)
    ++ codes ",\"files\":")))))

-- from there on
abbrev pub after_files : View → List Bool → List ℕ
after_files view bits =
    codes ",\"good\":" ++ (decimal (set_count bits)
    ++ (codes ",\"kind\":" ++ (quoted (word_of view.kind)
    ++ (codes ",\"name\":" ++ (quoted view.name
    ++ (codes ",\"piece_length\":" ++ (decimal view.piece_length
    ++ (codes ",\"pieces\":" ++ (decimal (length bits) ++ codes "}")))))))))

-- of a file, after the ranges of its bytes
abbrev pub found_members : FileFound → TreeFile → List ℕ
found_members found file =
    codes ",\"good\":" ++ (decimal found.good
    ++ (codes ",\"path\":" ++ (compact_text (path_data file.path)
    ++ (codes ",\"pieces\":" ++ (decimal found.pieces
    ++ (codes ",\"state\":" ++ (quoted (state_word found.state)
    ++ (codes ",\"there\":" ++ (compact_text (length_data found.there)
    ++ (codes ",\"told\":" ++ (decimal found.told ++ codes "}")))))))))))

-- if a file in this state is listed
abbrev pub is_listed : FileListing → FileState → Bool
is_listed Pieces state = false
is_listed Files state = true
is_listed BadFiles state = not (is_whole state)
is_listed BadPaths state = not (is_whole state)
