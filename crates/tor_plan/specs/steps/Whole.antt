-- All bytes of entries as one unit. Only private clauses cite this.
use Rattle.std.specs.Prelude.{◌≡◌, ℕ, ◌+◌, ◌*◌, List, [], ◌∷◌, map, if◌then◌else◌}
use Rattle.std.specs.List.{flat_map}
use Rattle.tor_tree.specs.declared.kinds.Kind.{Kind}
use Rattle.tor_tree.specs.declared.kinds.Kind.TheVariants.{V1}
use Rattle.tor_v1.specs.Entries.{file_entry}
use Rattle.tor_v1.specs.declared.entry.Entry.{Entry}
use Rattle.tor_plan.specs.Entries.{empty_unit, lengths_of_entries}
use Rattle.tor_plan.specs.EntryList.{IsEntryList}
use Rattle.tor_plan.specs.Forest.{forest_trees}
use Rattle.tor_plan.specs.Pieces.{pieces_of_unit}
use Rattle.tor_plan.specs.PlanFacts.{PlanFacts}
use Rattle.tor_plan.specs.declared.units.Part.{Part}
use Rattle.tor_plan.specs.declared.units.PlanUnit.{PlanUnit}
use Rattle.tor_plan.specs.steps.Joined.{file_alone, joined, part_alone, zeros_alone}

-- one entry after another; the first file has this index
unfoldable pub whole_from : ℕ → List Entry → PlanUnit
whole_from index [] = empty_unit
whole_from index (entry ∷ entries) =
    if entry.pad then joined (zeros_alone entry.length) (whole_from index entries)
    else joined (file_alone index entry.length) (whole_from (index + 1) entries)

abbrev pub whole_unit : List Entry → PlanUnit
whole_unit entries = whole_from 0 entries

-- files of these lengths, whose paths nobody asks for
abbrev pub unnamed : List ℕ → List Entry
unnamed lengths = map (λ m. file_entry ([], m)) lengths

-- whole files cut each by itself, with the zeros after them
abbrev pub separate_pieces : ℕ → List Part → List PlanUnit
separate_pieces size parts = flat_map (λ part. pieces_of_unit size (part_alone part)) parts

-- the whole cut every size bytes: all of it in version 1, else each file by itself
abbrev pub whole_units : Kind → ℕ → PlanUnit → List PlanUnit
whole_units V1 size whole = pieces_of_unit size whole
whole_units kind size whole = separate_pieces size whole.parts

-- the plan of a whole of files that have these lengths
abbrev pub plan_of_whole : Kind → ℕ → ℕ → PlanUnit → List ℕ → PlanFacts
plan_of_whole kind piece_length span whole lengths = record {
  kind = kind;
  piece_length = piece_length;
  units = whole_units kind (span * piece_length) whole;
  lengths = lengths;
  trees = forest_trees kind (span * piece_length) lengths;
}

-- they are all bytes and the lengths of files of some entries
pub record AreWhole (kind : Kind) (piece_length : ℕ) (whole : PlanUnit) (lengths : List ℕ) : Type 0 where
  pub entries : List Entry
  pub is_list : IsEntryList kind piece_length entries
  pub bytes : whole ≡ whole_unit entries
  pub files : lengths ≡ lengths_of_entries entries
