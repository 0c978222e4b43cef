-- What a worker owes: the sums of the pieces of units that were hashed.
-- Only clauses of the crates that hash cite these.
use Rattle.std.specs.Prelude.{◌≡◌, ◌⊎◌, ◌*◌, ℕ, List, [], ◌∷◌, ◌++◌, drop, length, take, if◌then◌else◌}
use Rattle.std.specs.Vec.{with_items}
use Rattle.tor_plan.specs.PlanFacts.{PlanFacts}
use Rattle.tor_tree.specs.Kinds.{has_v1}
use Rattle.tor_v1.specs.Piece.{piece_sums}
use Rattle.tor_sums.specs.declared.owing.OwingSums.{OwingSums}
use Rattle.tor_sums.specs.declared.unit_sums.UnitSums.{UnitSums}
use Rattle.tor_sums.specs.steps.Worker.{CanFinish, IsFresh}

-- the joined SHA-1 of the pieces of these bytes, where the kind has them
abbrev pub sums_of : PlanFacts → List ℕ → List ℕ
sums_of plan joined = if has_v1 plan.kind then piece_sums plan.piece_length joined else []

-- so many bytes are whole pieces
abbrev pub AreWhole : PlanFacts → List ℕ → Type 0
AreWhole plan joined = (count : ℕ) × (length joined ≡ count * plan.piece_length)

-- the worker owes these sums, and after them those of a unit with these bytes, which was read
pub record OwesWith (plan : PlanFacts) (owed joined : List ℕ) (worker : OwingSums) : Type 0 where
  pub before : List ℕ
  pub fresh : IsFresh plan (before ++ joined) worker.sums
  pub is_owed : worker.ended.items ++ sums_of plan before ≡ owed
  pub whole : AreWhole plan before
  pub either : (worker.ended.items ≡ []) ⊎ (before ≡ [])

-- the worker owes these sums, for which there is room, and a unit can begin
pub record Owes (plan : PlanFacts) (owed : List ℕ) (worker : OwingSums) : Type 0 where
  pub before : List ℕ
  pub fresh : IsFresh plan before worker.sums
  pub is_owed : worker.ended.items ++ sums_of plan before ≡ owed
  pub whole : AreWhole plan before
  pub either : (worker.ended.items ≡ []) ⊎ (before ≡ [])
  pub can : CanFinish worker.sums

-- a unit's sums with those of its pieces, for which it has room
abbrev pub paid_one : UnitSums → List ℕ → UnitSums
paid_one one own =
    record { unit = one.unit; hash = one.hash; layer = one.layer; pieces = with_items one.pieces own }

-- items with the sums that are owed to each, so many bytes of them, which stand one after another
unfoldable pub paid_each : {A : Type 0} → (A → ℕ) → (A → List ℕ → A) → List A → List ℕ → List A
paid_each owed paid [] sums = []
paid_each owed paid (one ∷ items) sums =
    paid one (take (owed one) sums) ∷ paid_each owed paid items (drop (owed one) sums)

-- what is owed to a unit: as many bytes as it has room for
abbrev pub owed_to_unit : UnitSums → ℕ
owed_to_unit one = length one.pieces.items
