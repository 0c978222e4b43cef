-- Which bytes the units of a plan have, where the files have these contents.
use Rattle.std.specs.Prelude.{◌≡◌, ℕ, Bool, true, false, List, [], ◌++◌, length, map, take, drop, slice_index_or}
use Rattle.std.specs.List.{flat_map}
use Rattle.tor_tree.specs.FileList.{lengths_of}
use Rattle.tor_tree.specs.declared.kinds.Kind.{Kind}
use Rattle.tor_tree.specs.declared.kinds.Kind.TheVariants.{Hybrid}
use Rattle.tor_v1.specs.Content.{joined_content}
use Rattle.tor_v1.specs.Entries.{v1_entries}
use Rattle.tor_v1.specs.Piece.{zeros}
use Rattle.tor_v1.specs.declared.layout.Layout.{Layout}
use Rattle.tor_v1.specs.declared.layout.Layout.TheVariants.{Joined, Aligned, AlignedTail}
use Rattle.tor_plan.specs.declared.units.Part.{Part}
use Rattle.tor_plan.specs.declared.units.PlanUnit.{PlanUnit}

-- one content for each file of the list, of its length
abbrev pub AreContentsOfFiles : List (List (List ℕ) × ℕ) → List (List ℕ) → Type 0
AreContentsOfFiles files contents = map length contents ≡ lengths_of files

-- the bytes of a part, and the zeros after them
abbrev pub part_content : List (List ℕ) → Part → List ℕ
part_content contents part =
    take part.length (drop part.start (slice_index_or contents part.file [])) ++ zeros part.zeros

-- the bytes of a unit. They are its zeros, and its parts, each with the zeros after it (profile)
abbrev pub unit_content : List (List ℕ) → PlanUnit → List ℕ
unit_content contents unit = zeros unit.zeros ++ flat_map (part_content contents) unit.parts

-- in a hybrid torrent with padding between the files, and with a tail after the last; else directly after one another
abbrev pub layout_of_kind : Kind → Bool → Layout
layout_of_kind Hybrid false = Aligned
layout_of_kind Hybrid true = AlignedTail
layout_of_kind _ tail = Joined

-- the content that the units cut: that of the files' entries (profile)
abbrev pub cut_content : Kind → Bool → ℕ → List (List (List ℕ) × ℕ) → List (List ℕ) → List ℕ
cut_content kind tail piece_length files contents =
    joined_content (v1_entries (layout_of_kind kind tail) piece_length files) contents
