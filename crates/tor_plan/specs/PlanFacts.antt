-- What a plan tells.
use Rattle.std.specs.Prelude.{◌≡◌, ℕ, ◌*◌, ◌≤◌, IsTrue, List}
use Rattle.std.specs.Int.{is_power_of_two}
use Rattle.tor_tree.specs.declared.kinds.Kind.{Kind}
use Rattle.tor_tree.specs.declared.kinds.Kind.TheVariants.{V1}
use Rattle.tor_v1.specs.Piece.{IsV1PieceLength, max_piece_length}
use Rattle.tor_plan.specs.declared.forests.Run.{Run}
use Rattle.tor_plan.specs.declared.units.PlanUnit.{PlanUnit}
use Rattle.tor_v1.specs.declared.entry.Entry.{Entry}
use Rattle.tor_plan.specs.Entries.{entry_units, lengths_of_entries}
use Rattle.tor_plan.specs.EntryList.{IsEntryList}
use Rattle.tor_plan.specs.Forest.{forest_trees}
use Rattle.tor_merkle.specs.declared.TheConstants.{BLOCK_LENGTH}

-- the piece lengths that a plan takes: with trees powers of two. They are those of torrents of a kind, at most 2^30,
-- and with trees from one block on (profile)
abbrev pub IsPlanPieceLength : Kind → ℕ → Type 0
IsPlanPieceLength V1 piece_length = IsV1PieceLength piece_length
IsPlanPieceLength kind piece_length =
    IsTrue (is_power_of_two piece_length) × (BLOCK_LENGTH ≤ piece_length) × (piece_length ≤ max_piece_length)

-- how many pieces a unit may have: a power of two from 1 to 1,024 (profile)
abbrev pub IsSpan : ℕ → Type 0
IsSpan span = IsTrue (is_power_of_two span) × (1 ≤ span) × (span ≤ 1024)

pub record PlanFacts : Type 0 where
  pub kind : Kind
  pub piece_length : ℕ
  pub units : List PlanUnit
  pub lengths : List ℕ
  pub trees : List Run

-- what the plan of the entries of a torrent tells (profile)
abbrev pub plan_of_entries : Kind → ℕ → ℕ → List Entry → PlanFacts
plan_of_entries kind piece_length span entries = record {
  kind = kind;
  piece_length = piece_length;
  units = entry_units kind piece_length span entries;
  lengths = lengths_of_entries entries;
  trees = forest_trees kind (span * piece_length) (lengths_of_entries entries);
}

-- the plan is that of some entries; a list of files has the plan of its entries
pub record IsPlan (plan : PlanFacts) : Type 0 where
  pub span : ℕ
  pub entries : List Entry
  pub is_span : IsSpan span
  pub is_list : IsEntryList plan.kind plan.piece_length entries
  pub pieces : IsPlanPieceLength plan.kind plan.piece_length
  pub made : plan ≡ plan_of_entries plan.kind plan.piece_length span entries
