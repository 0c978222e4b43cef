-- What every plan keeps to.
use Rattle.std.proofs.Common.{◌≡◌, ◌≤◌, ◌<◌, ◌*◌, ◌^◌, ℕ, IsTrue, true, arith, mul-le-mul_right, refl}
use Rattle.std.proofs.Common.{subst, sym}
use Rattle.std.proofs.lemmas.Bool.{le-leb}
use Rattle.std.specs.Int.{is_power_of_two}
use Rattle.std.specs.List.{All}
use Rattle.tor_merkle.specs.Layer.{IsPieceLength}
use Rattle.tor_merkle.specs.declared.TheConstants.{MAX_LENGTH, MAX_PIECE_LENGTH, MIN_PIECE_LENGTH}
use Rattle.tor_plan.specs.PlanFacts.{IsPlan, IsPlanPieceLength, PlanFacts}
use Rattle.tor_plan.specs.WithinEntries.{IsInFile, unit_length}
use Rattle.tor_plan.proofs.ProvedLaws.{entry_units_are_within_files}
use Rattle.tor_tree.specs.Kinds.{has_v2}
use Rattle.tor_tree.specs.declared.kinds.Kind.{Kind}
use Rattle.tor_tree.specs.declared.kinds.Kind.TheVariants.{V1, V2, Hybrid}

pub some_piece : (kind : Kind) (p : ℕ) → IsPlanPieceLength kind p → 0 < p
some_piece V1 p pieces = omega (arith, pieces.0)
some_piece V2 p pieces = omega (arith, pieces.1)
some_piece Hybrid p pieces = omega (arith, pieces.1)

small_piece : (kind : Kind) (p : ℕ) → IsPlanPieceLength kind p → p ≤ 2 ^ 30
small_piece V1 p pieces = pieces.1
small_piece V2 p pieces = pieces.2
small_piece Hybrid p pieces = pieces.2

small_size : (plan : PlanFacts) (is : IsPlan plan) → is.span * plan.piece_length ≤ 2 ^ 40
small_size plan is =
    omega (
      arith,
      mul-le-mul_right {m = is.span} {n = 1024} plan.piece_length is.is_span.2,
      small_piece plan.kind plan.piece_length is.pieces,
    )

pub small_units : (plan : PlanFacts) → IsPlan plan → All (λ unit. unit_length unit ≤ 2 ^ 40) plan.units
small_units plan is =
    subst (λ (p : PlanFacts). All (λ unit. unit_length unit ≤ 2 ^ 40) p.units) (sym is.made)
    (λ k d there.
    let unit = entry_units_are_within_files plan.kind plan.piece_length is.span is.entries (omega (arith, is.is_span.1))
    (some_piece plan.kind plan.piece_length is.pieces) is.is_list.laid_out k d there in
    omega (arith, unit.within, small_size plan is))

-- all parts are in files of the plan
pub units_in_files : (plan : PlanFacts) → IsPlan plan → All (λ unit. All (IsInFile plan.lengths) unit.parts) plan.units
units_in_files plan is =
    subst (λ (p : PlanFacts). All (λ unit. All (IsInFile p.lengths) unit.parts) p.units) (sym is.made)
    (λ k d there.
    (entry_units_are_within_files plan.kind plan.piece_length is.span is.entries (omega (arith, is.is_span.1))
    (some_piece plan.kind plan.piece_length is.pieces) is.is_list.laid_out k d there).parts)

pub small_lengths : (plan : PlanFacts) → IsPlan plan → All (λ m. m ≤ MAX_LENGTH) plan.lengths
small_lengths plan is =
    subst (λ (p : PlanFacts). All (λ m. m ≤ MAX_LENGTH) p.lengths) (sym is.made) is.is_list.files

bounded : (n : ℕ) → IsTrue (is_power_of_two n) × (MIN_PIECE_LENGTH ≤ n) × (n ≤ MAX_PIECE_LENGTH) → IsPieceLength n
bounded n h =
    let from = le-leb MIN_PIECE_LENGTH n h.1 in let to = le-leb n MAX_PIECE_LENGTH h.2 in rw (h.0, from, to) refl

allowed_by : (kind : Kind) (p : ℕ) → IsPlanPieceLength kind p → has_v2 kind ≡ true → IsPieceLength p
allowed_by V1 p pieces trees = cc
allowed_by V2 p pieces trees = bounded p pieces
allowed_by Hybrid p pieces trees = bounded p pieces

pub allowed_in : (plan : PlanFacts) → IsPlan plan → has_v2 plan.kind ≡ true → IsPieceLength plan.piece_length
allowed_in plan is trees = allowed_by plan.kind plan.piece_length is.pieces trees
