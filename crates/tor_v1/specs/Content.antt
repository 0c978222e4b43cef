-- The content of a version 1 torrent: its files, and zeros for padding, one after another (BEP 3, "info dictionary").
use Rattle.std.specs.Prelude.{◌≡◌, ℕ, not, List, [], ◌∷◌, ◌++◌, length, map, filter, drop, slice_index_or}
use Rattle.std.specs.Prelude.{if◌then◌else◌}
use Rattle.tor_v1.specs.declared.entry.Entry.{Entry}
use Rattle.tor_v1.specs.Piece.{piece_sums, zeros}

-- the entries that are no padding
abbrev pub file_entries : List Entry → List Entry
file_entries entries = filter (λ entry. not entry.pad) entries

-- one content for each entry that is no padding, of its length
abbrev pub AreContentsOf : List Entry → List (List ℕ) → Type 0
AreContentsOf entries contents = map length contents ≡ map (λ entry. entry.length) (file_entries entries)

-- the contents of the files, in the order of the entries, and zeros for padding
unfoldable pub joined_content : List Entry → List (List ℕ) → List ℕ
joined_content [] contents = []
joined_content (entry ∷ entries) contents =
    if entry.pad then zeros entry.length ++ joined_content entries contents
    else slice_index_or contents 0 [] ++ joined_content entries (drop 1 contents)

-- the joined SHA-1 of each piece of the entries' contents, zeros for padding. It is `pieces` (BEP 3, "info dictionary";
-- BEP 47, "padding files")
unfoldable pub v1_pieces : ℕ → List Entry → List (List ℕ) → List ℕ
v1_pieces piece_length entries contents = piece_sums piece_length (joined_content entries contents)
