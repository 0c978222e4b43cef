-- What `tor scan` prints.
use Rattle.std.specs.Prelude.{ℕ, List, [], ◌++◌, length, flat_map, decimal, codes, slice_index, slice_index_or}
use Rattle.std.specs.List.{range_with_len}
use Rattle.tor_meta.specs.PieceLength.{auto_piece_length}
use Rattle.tor_source.specs.declared.refused.Refused.{Refused}
use Rattle.tor_report.specs.Shown.{path_text}
use Rattle.tor_cli.specs.make.FileSizes.{total_of}
use Rattle.tor_cli.specs.make.PathsText.{paths_text}
use Rattle.tor_cli.specs.scan.Inventory.{refusal_code, refusal_word}
use Rattle.tor_report.specs.Escape.{escaped, escaped_bytes}
use Rattle.tor_cli.specs.text.Records.{scan_line}
use Rattle.tor_cli.specs.declared.scan.inventory.Inventory.{Inventory}
use Rattle.tor_cli.specs.declared.scan.words.ScanForm.{ScanForm}
use Rattle.tor_cli.specs.declared.scan.words.ScanForm.TheVariants.{Lines, Paths, Record}

-- the line of a file: its number in the torrent, its length in bytes, its path
abbrev pub numbered_line : ℕ → ℕ → List (List ℕ) → List ℕ
numbered_line number length path =
    decimal number ++ (codes " " ++ (decimal length ++ (codes " " ++ (escaped (path_text path) ++ codes "\n"))))

-- the line of the file of this number
abbrev pub line_of : Inventory → ℕ → List ℕ
line_of found number =
    numbered_line number (slice_index found.lengths.items number) (slice_index_or found.paths.items number [])

-- how many files there are, their bytes, and the piece length that suits these
abbrev pub total_lines : Inventory → List ℕ
total_lines found =
    codes "files " ++ (decimal (length found.paths.items)
    ++ (codes "\nbytes " ++ (decimal (total_of found.lengths.items)
    ++ (codes "\npiece length " ++ (decimal (auto_piece_length (total_of found.lengths.items)) ++ codes "\n")))))

-- the line of what is refused: its code and name, what it is, its path
abbrev pub refused_line : Refused → List ℕ
refused_line one =
    codes "refused " ++ (refusal_code one.refusal ++ (codes " " ++ (refusal_word one.refusal
    ++ (codes " " ++ (escaped_bytes one.path.items ++ codes "\n")))))

-- the lines of the files, from number 0 on
abbrev pub file_lines : Inventory → List ℕ
file_lines found = flat_map (line_of found) (range_with_len 0 (length found.paths.items))

-- the lines of `tor scan`: the files in the torrent's order, the totals, and what is refused (profile)
abbrev pub scan_lines : Inventory → List ℕ
scan_lines found = file_lines found ++ (total_lines found ++ flat_map refused_line found.refused.items)

-- what is printed in each form (profile)
abbrev pub scan_text : ScanForm → Inventory → List ℕ
scan_text Lines found = scan_lines found
scan_text Paths found = paths_text found.paths.items
scan_text Record found = scan_line found
