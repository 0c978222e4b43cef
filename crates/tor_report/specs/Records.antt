-- What is told of a torrent to programs: a record, as JSON (RFC 8259) on one line. Its members stand in the order of
-- their names.
use Rattle.std.specs.Prelude.{ℕ, ◌-◌, List, [], ◌++◌, map, sum_by, codes, Option, None, Some}
use Rattle.std.specs.List.{zip}
use Rattle.hex.specs.Hex.{encode_lower}
use Rattle.serde_json.specs.Data.{Data, Members, null, boolean, number, string, array, object, unsigned, member}
use Rattle.serde_json.specs.Data.{no_members}
use Rattle.serde_json.specs.View.{items_of}
use Rattle.serde_json.specs.Written.{compact_text}
use Rattle.tor_bencode.specs.Data.{Data as Tree}
use Rattle.tor_spec.specs.declared.hashes.Hashes.{Hashes}
use Rattle.tor_view.specs.FileBytes.{PiecedFile, pieced_files}
use Rattle.tor_view.specs.declared.spans.FileSpan.{FileSpan}
use Rattle.tor_spec.specs.valid.View.{FileView, View}
use Rattle.tor_tree.specs.declared.tree_file.TreeFile.{TreeFile}
use Rattle.tor_report.specs.Servers.{announce_data, announce_list_data, url_list_data}
use Rattle.tor_report.specs.Words.{word_of}

-- an object's text on one line, without a space (RFC 8259; profile)
abbrev pub record_line : Data → List ℕ
record_line told = compact_text told ++ codes "\n"

abbrev pub count_data : ℕ → Data
count_data n = number (unsigned n)

-- the names of a path, each by itself
abbrev pub path_data : List (List ℕ) → Data
path_data names = array (items_of (map string names))

-- a path, and how many bytes its file has
abbrev pub sized_data : ℕ → List (List ℕ) → Data
sized_data length path =
    object (member (codes "length") (count_data length) (member (codes "path") (path_data path) no_members))

-- the digits of a hash behind these; null where there is no hash
abbrev pub hash_data : List ℕ → Option (List ℕ) → Data
hash_data before None = null
hash_data before (Some hash) = string (before ++ encode_lower hash)

-- a file with the pieces that have bytes of it: its letters, the first of these pieces and how many they are, its
-- length in bytes, its path and its root
abbrev pub file_data : TreeFile → FileSpan → Data
file_data file span =
    object
    (member (codes "exec") (boolean file.exec)
    (member (codes "first_piece") (count_data span.first)
    (member (codes "hidden") (boolean file.hidden)
    (member (codes "length") (count_data file.length)
    (member (codes "path") (path_data file.path)
    (member (codes "pieces") (count_data (span.after - span.first))
    (member (codes "root") (hash_data [] file.root) no_members)))))))

abbrev pub placed_data : FileView × PiecedFile → Data
placed_data placed = file_data placed.0.file placed.1.span

-- files, each with its pieces
abbrev pub files_data : List FileView → List PiecedFile → Data
files_data files pieces = array (items_of (map placed_data (zip files pieces)))

-- how many bytes files have together
abbrev pub total_length : List FileView → ℕ
total_length files = sum_by (λ shown. shown.file.length) files

-- the members of an object that tells of a torrent with this tree, whose files have these pieces
abbrev pub members_of : Tree → View → List PiecedFile → Hashes → Members
members_of root view pieces hashes =
    member (codes "announce") (announce_data root)
    (member (codes "announce_list") (announce_list_data root)
    (member (codes "btih") (hash_data [] hashes.v1)
    (member (codes "btmh") (hash_data (codes "1220") hashes.v2)
    (member (codes "files") (files_data view.files pieces)
    (member (codes "kind") (string (word_of view.kind))
    (member (codes "name") (string view.name)
    (member (codes "piece_length") (count_data view.piece_length)
    (member (codes "pieces") (count_data view.piece_count)
    (member (codes "private") (boolean view.is_private)
    (member (codes "total") (count_data (total_length view.files))
    (member (codes "url_list") (url_list_data root) no_members)))))))))))

-- the members of the object that `check` prints: what a torrent's tree says of its servers, what the torrent describes,
-- and its info hashes. Padding is no file, and not counted (profile)
abbrev pub check_members : Tree → View → Hashes → Members
check_members root view hashes = members_of root view (pieced_files view) hashes

-- what `tor check --json` prints
abbrev pub check_line : Tree → View → Hashes → List ℕ
check_line root view hashes = record_line (object (check_members root view hashes))
