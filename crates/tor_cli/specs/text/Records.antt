-- What is told to programs: a record, as JSON (RFC 8259) on one line. Its members stand in the order of their names.
use Rattle.std.specs.Prelude.{ℕ, Bool, List, [], ◌∷◌, ◌++◌, length, map, flat_map, codes, Option, None, Some}
use Rattle.std.specs.Prelude.{if◌then◌else◌, slice_index, slice_index_or}
use Rattle.std.specs.List.{range_with_len, zip}
use Rattle.hex.specs.Hex.{encode_lower}
use Rattle.serde_json.specs.Data.{Data, Members, null, number, string, array, object, unsigned, member, no_members}
use Rattle.serde_json.specs.View.{items_of}
use Rattle.tor_meta.specs.PieceLength.{auto_piece_length}
use Rattle.tor_spec.specs.declared.hashes.Hashes.{Hashes}
use Rattle.tor_view.specs.Bitfield.{bitfield, set_count}
use Rattle.tor_view.specs.declared.file_pieces.ByteRange.{ByteRange}
use Rattle.tor_source.specs.declared.refused.Refused.{Refused}
use Rattle.tor_report.specs.Records.{count_data, hash_data, path_data, record_line, sized_data}
use Rattle.tor_report.specs.Words.{word_of}
use Rattle.tor_spec.specs.valid.View.{FileView, View}
use Rattle.tor_tree.specs.declared.tree_file.TreeFile.{TreeFile}
use Rattle.tor_cli.specs.recheck.FoundFiles.{is_whole, state_word}
use Rattle.tor_cli.specs.make.FileSizes.{total_of}
use Rattle.tor_cli.specs.scan.Inventory.{refusal_code, refusal_word}
use Rattle.tor_report.specs.Escape.{printable}
use Rattle.tor_cli.specs.declared.scan.inventory.Inventory.{Inventory}
use Rattle.tor_cli.specs.declared.recheck.bytes_found.BytesFound.{BytesFound}
use Rattle.tor_cli.specs.declared.recheck.listing.FileListing.{FileListing}
use Rattle.tor_cli.specs.declared.recheck.listing.FileListing.TheVariants.{Pieces, Files, BadFiles, BadPaths}

-- ---- of `tor recheck`

-- a length in bytes; null where there is none
abbrev pub length_data : Option ℕ → Data
length_data None = null
length_data (Some length) = count_data length

-- a range of bytes: the offset of the first, and that of the first after them
abbrev pub range_data : ByteRange → Data
range_data range = array (items_of (count_data range.from ∷ count_data range.to ∷ []))

-- what is told of a file, and its bytes in pieces that do not hold
abbrev pub found_data : BytesFound → TreeFile → Data
found_data told file = object
    (member (codes "bad") (array (items_of (map range_data told.bad.items)))
    (member (codes "good") (count_data told.found.good)
    (member (codes "path") (path_data file.path)
    (member (codes "pieces") (count_data told.found.pieces)
    (member (codes "state") (string (state_word told.found.state))
    (member (codes "there") (length_data told.found.there)
    (member (codes "told") (count_data told.found.told) no_members)))))))

-- where the file is listed
abbrev pub listed_data : FileListing → BytesFound → TreeFile → List Data
listed_data Pieces told file = []
listed_data Files told file = found_data told file ∷ []
listed_data BadFiles told file = if is_whole told.found.state then [] else found_data told file ∷ []
listed_data BadPaths told file = if is_whole told.found.state then [] else found_data told file ∷ []

abbrev pub listed_pair : FileListing → BytesFound × FileView → List Data
listed_pair listing pair = listed_data listing pair.0 pair.1.file

abbrev pub listed_files : FileListing → List BytesFound → List FileView → List Data
listed_files listing told files = flat_map (listed_pair listing) (zip told files)

-- the files that are listed; null where none is asked for
abbrev pub files_data : FileListing → List BytesFound → List FileView → Data
files_data Pieces told files = null
files_data listing told files = array (items_of (listed_files listing told files))

-- those of `recheck` (profile)
abbrev pub recheck_members : FileListing → View → Hashes → List Bool → List BytesFound → Members
recheck_members listing view hashes bits told =
    member (codes "bits") (string (encode_lower (bitfield bits)))
    (member (codes "btih") (hash_data [] hashes.v1)
    (member (codes "btmh") (hash_data (codes "1220") hashes.v2)
    (member (codes "files") (files_data listing told view.files)
    (member (codes "good") (count_data (set_count bits))
    (member (codes "kind") (string (word_of view.kind))
    (member (codes "name") (string view.name)
    (member (codes "piece_length") (count_data view.piece_length)
    (member (codes "pieces") (count_data (length bits)) no_members))))))))

-- what the lines of `tor recheck` tell, and more
abbrev pub recheck_line : FileListing → View → Hashes → List Bool → List BytesFound → List ℕ
recheck_line listing view hashes bits told = record_line (object (recheck_members listing view hashes bits told))

-- ---- of `tor scan`

-- the file of this number: its length in bytes, and its path
abbrev pub scanned_data : Inventory → ℕ → Data
scanned_data found index =
    sized_data (slice_index found.lengths.items index) (slice_index_or found.paths.items index [])

-- what is refused: its path as text, its code and name, and what it is
abbrev pub refused_data : Refused → Data
refused_data one = object
    (member (codes "path") (string (printable one.path.items))
    (member (codes "refusal") (string (refusal_code one.refusal))
    (member (codes "what") (string (refusal_word one.refusal)) no_members)))

-- the members of the object that `scan` prints (profile)
abbrev pub scan_members : Inventory → Members
scan_members found =
    member (codes "bytes") (count_data (total_of found.lengths.items))
    (member (codes "files")
    (array (items_of (map (scanned_data found) (range_with_len 0 (length found.paths.items)))))
    (member (codes "piece_length") (count_data (auto_piece_length (total_of found.lengths.items)))
    (member (codes "refused") (array (items_of (map refused_data found.refused.items))) no_members)))

-- what the lines of `tor scan` tell
abbrev pub scan_line : Inventory → List ℕ
scan_line found = record_line (object (scan_members found))
