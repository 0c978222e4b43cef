-- How the entries of a torrent, files and padding (BEP 47, "padding files"), are cut into units of work. A file is
-- named by its index among the entries that are no padding.
use Rattle.std.specs.Prelude.{ℕ, ◌+◌, ◌-◌, ◌*◌, min, max, nat_lt, nat_le, List, [], ◌∷◌, ◌++◌, map, sum_by}
use Rattle.std.specs.Prelude.{if◌then◌else◌}
use Rattle.std.specs.Int.{div_ceil}
use Rattle.std.specs.List.{range_with_len}
use Rattle.tor_tree.specs.declared.kinds.Kind.{Kind}
use Rattle.tor_tree.specs.declared.kinds.Kind.TheVariants.{V1}
use Rattle.tor_v1.specs.Content.{file_entries}
use Rattle.tor_v1.specs.declared.entry.Entry.{Entry}
use Rattle.tor_plan.specs.declared.units.PlanUnit.{PlanUnit}

-- the bytes of all entries
abbrev pub entries_length : List Entry → ℕ
entries_length entries = sum_by (λ entry. entry.length) entries

-- the length of each file
abbrev pub lengths_of_entries : List Entry → List ℕ
lengths_of_entries entries = map (λ entry. entry.length) (file_entries entries)

-- ---- joined entries

-- no byte
abbrev pub empty_unit : PlanUnit
empty_unit = record { zeros = 0; parts = [] }

-- zeros, and then the unit
abbrev pub after_zeros : ℕ → PlanUnit → PlanUnit
after_zeros n unit = record { zeros = n + unit.zeros; parts = unit.parts }

-- a part of a file, and then the unit: the zeros that it begins with come after the part
abbrev pub after_part : ℕ → ℕ → ℕ → PlanUnit → PlanUnit
after_part file start n unit = record {
  zeros = 0;
  parts = record { file = file; start = start; length = n; zeros = unit.zeros } ∷ unit.parts;
}

-- how many bytes from a to b are among the m bytes from at on
abbrev pub shared : ℕ → ℕ → ℕ → ℕ → ℕ
shared a b at m = min b (at + m) - max a at

-- the bytes from a to b of joined entries. Padding is zeros; the first entry begins at byte at, and the first file has
-- this index (BEP 3, "info dictionary"; BEP 47, "padding files")
unfoldable pub unit_within : ℕ → ℕ → ℕ → ℕ → List Entry → PlanUnit
unit_within a b index at [] = empty_unit
unit_within a b index at (entry ∷ entries) =
    if entry.pad then after_zeros (shared a b at entry.length) (unit_within a b index (at + entry.length) entries)
    else (
    if nat_lt 0 (shared a b at entry.length) then
    after_part index (max a at - at) (shared a b at entry.length)
    (unit_within a b (index + 1) (at + entry.length) entries)
    else unit_within a b (index + 1) (at + entry.length) entries)

-- the k-th unit of the joined entries, which are cut every size bytes
abbrev pub joined_entry_unit : ℕ → List Entry → ℕ → PlanUnit
joined_entry_unit size entries k = unit_within (k * size) ((k + 1) * size) 0 0 entries

-- the joined entries cut every size bytes, the last unit perhaps shorter
unfoldable pub joined_entry_units : ℕ → List Entry → List PlanUnit
joined_entry_units size entries =
    map (joined_entry_unit size entries) (range_with_len 0 (div_ceil (entries_length entries) size))

-- ---- files cut each by itself

-- the k-th unit of a file of m bytes that is cut every size bytes; the one with the file's end has the zeros after it
abbrev pub file_unit : ℕ → ℕ → ℕ → ℕ → ℕ → PlanUnit
file_unit size file m zeros k = record {
  zeros = 0;
  parts = record {
    file = file;
    start = k * size;
    length = min (m - k * size) size;
    zeros = if nat_le (m - k * size) size then zeros else 0;
  } ∷ [];
}

-- a file cut every size bytes; no unit of an empty one
abbrev pub units_of_file : ℕ → ℕ → ℕ → ℕ → List PlanUnit
units_of_file size file m zeros = map (file_unit size file m zeros) (range_with_len 0 (div_ceil m size))

-- the padding before the next file that is not empty, or before the end
unfoldable pub padding_before_next : List Entry → ℕ
padding_before_next [] = 0
padding_before_next (entry ∷ entries) =
    if entry.pad then entry.length + padding_before_next entries else (
    if nat_lt 0 entry.length then 0 else padding_before_next entries)

-- each file cut by itself, and the padding up to the next one that is not empty in its last unit; the first has this
-- index
unfoldable pub separate_entry_units : ℕ → ℕ → List Entry → List PlanUnit
separate_entry_units size index [] = []
separate_entry_units size index (entry ∷ entries) =
    if entry.pad then separate_entry_units size index entries else
    units_of_file size index entry.length (padding_before_next entries)
    ++ separate_entry_units size (index + 1) entries

-- a torrent's entries cut every span pieces: in version 1 joined, else file by file. Padding is zeros: in version 1 it
-- may stand before the first part of a unit too, else it stands in the last unit of the file before it, up to the next
-- file that is not empty (BEP 3, "info dictionary"; BEP 52, "pieces root"; BEP 47, "padding files")
abbrev pub entry_units : Kind → ℕ → ℕ → List Entry → List PlanUnit
entry_units V1 piece_length span entries = joined_entry_units (span * piece_length) entries
entry_units kind piece_length span entries = separate_entry_units (span * piece_length) 0 entries
