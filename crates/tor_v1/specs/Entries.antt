-- The `files` list of a version 1 torrent (BEP 3, "info dictionary"), and its padding (BEP 47, "padding files").
-- A file is a pair of a path and a length in bytes.
use Rattle.std.specs.Prelude.{ℕ, ◌-◌, Bool, true, false, ◌&&◌, ◌||◌, nat_lt, List, [], ◌∷◌, ◌++◌, map, codes}
use Rattle.std.specs.Prelude.{decimal, drop, slice_index_or, if◌then◌else◌}
use Rattle.std.specs.Int.{next_multiple_of}
use Rattle.std.specs.List.{list_any}
use Rattle.tor_tree.specs.Letters.{no_letters}
use Rattle.tor_tree.specs.declared.attr.Attr.{Attr}
use Rattle.tor_v1.specs.declared.entry.Entry.{Entry}
use Rattle.tor_v1.specs.declared.layout.Layout.{Layout}
use Rattle.tor_v1.specs.declared.layout.Layout.TheVariants.{Joined, Aligned, AlignedTail}

-- the entry of a file without letters
abbrev pub file_entry : List (List ℕ) × ℕ → Entry
file_entry file = record { path = file.0; length = file.1; pad = false; exec = false; hidden = false }

-- padding of n zero bytes; its path is .pad and n in base ten
abbrev pub pad_entry : ℕ → Entry
pad_entry n = record {
  path = codes ".pad" ∷ decimal n ∷ [];
  length = n;
  pad = true;
  exec = false;
  hidden = false;
}

-- some file is not empty
abbrev pub has_bytes : List (List (List ℕ) × ℕ) → Bool
has_bytes files = list_any (λ file. nat_lt 0 file.1) files

-- what m bytes lack to the next multiple of the piece length; no byte lacks none
abbrev pub padding_length : ℕ → ℕ → ℕ
padding_length piece_length m = next_multiple_of m piece_length - m

-- directly after a file of m bytes that later files follow: what it lacks, where it lacks any and a later file is not
-- empty; with a tail also where none is
abbrev pub padding_after : Bool → ℕ → ℕ → List (List (List ℕ) × ℕ) → List Entry
padding_after tail piece_length m later =
    if nat_lt 0 (padding_length piece_length m) && (tail || has_bytes later)
    then pad_entry (padding_length piece_length m) ∷ [] else []

-- each file, and its padding directly after it
unfoldable pub aligned_entries : Bool → ℕ → List (List (List ℕ) × ℕ) → List Entry
aligned_entries tail piece_length [] = []
aligned_entries tail piece_length (file ∷ later) =
    file_entry file ∷ padding_after tail piece_length file.1 later ++ aligned_entries tail piece_length later

-- the entries of files: joined, or with padding directly after each that ends inside a piece and has a later one with
-- bytes; with a tail, after the last with bytes too. They are in the list's order (BEP 3, "info dictionary"; BEP 47,
-- "padding files")
abbrev pub v1_entries : Layout → ℕ → List (List (List ℕ) × ℕ) → List Entry
v1_entries Joined piece_length files = map file_entry files
v1_entries Aligned piece_length files = aligned_entries false piece_length files
v1_entries AlignedTail piece_length files = aligned_entries true piece_length files

-- the entry with these letters, which are those of "attr" of BEP 47
abbrev pub with_attr : Attr → Entry → Entry
with_attr attr entry = record {
  path = entry.path;
  length = entry.length;
  pad = entry.pad;
  exec = attr.exec;
  hidden = attr.hidden;
}

-- entries with the letters of their files; padding has none. The first that is no padding has the first letters (BEP
-- 47, "attr")
unfoldable pub with_letters : List Attr → List Entry → List Entry
with_letters attrs [] = []
with_letters attrs (entry ∷ entries) =
    if entry.pad then entry ∷ with_letters attrs entries
    else with_attr (slice_index_or attrs 0 no_letters) entry ∷ with_letters (drop 1 attrs) entries
