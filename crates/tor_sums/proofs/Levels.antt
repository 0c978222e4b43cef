-- The levels of pieces and units in trees.
use Rattle.std.proofs.Common.{◌≡◌, ℕ, ◌+◌, ◌-◌, ◌*◌, ◌/◌, ◌^◌, ◌≤◌, arith, ap, ◌∙◌, sym, pow-add, pow_pos}
use Rattle.std.proofs.Common.{eqb-true, mul_comm, mul_assoc}
use Rattle.std.proofs.Math.Nat.{mul-div_cancel_left}
use Rattle.std.specs.Int.{div_ceil}
use Rattle.tor_merkle.proofs.ProvedLaws.{ceil_at_most, piece_levels_are_low, power_from_ones}
pub use Rattle.tor_merkle.proofs.ProvedLaws.{piece_at_level, power_within as exponents}
use Rattle.tor_merkle.specs.Layer.{IsPieceLength, piece_level}
use Rattle.tor_plan.proofs.ProvedLaws.{log2_is}
use Rattle.tor_plan.specs.Forest.{log2, unit_level}
use Rattle.tor_plan.specs.PlanFacts.{IsSpan}

-- the level of a unit of so many blocks
pub level_of_power : (size k : ℕ) → size ≡ 16384 * 2 ^ k → unit_level size ≡ k
level_of_power size k is =
    ap (λ n. log2 (n / 16384)) is ∙ ap log2 (mul-div_cancel_left (2 ^ k) (omega arith))
    ∙ sym (log2_is (2 ^ k) k (pow_pos k) (omega arith) (omega (arith, pow_pos k)))

-- how many runs of 2 ^ j blocks fit below a node
pub few_below : (n size j level : ℕ) → size ≡ 16384 * 2 ^ j → j ≤ level → n ≤ 16384 * 2 ^ level
    → div_ceil n size ≤ 2 ^ (level - j)
few_below n size j level is low fits =
    let k = level - j in
    let all : 2 ^ level ≡ 2 ^ k * 2 ^ j =
    ap (λ m. 2 ^ m) (let e : level ≡ k + j = omega (arith, low) in e) ∙ pow-add 2 k j in
    let whole : 2 ^ k * size ≡ 2 ^ k * 2 ^ j * 16384 =
    ap (λ m. 2 ^ k * m) (is ∙ mul_comm 16384 (2 ^ j)) ∙ sym (mul_assoc (2 ^ k) (2 ^ j) 16384) in
    ceil_at_most n size (2 ^ k) (omega (arith, is, pow_pos j)) (omega (arith, fits, all, whole))

-- a unit has 2 ^ level blocks, and some pieces
pub unit_at_level : (p span : ℕ) → IsPieceLength p → IsSpan span
    → (piece_level p ≤ unit_level (span * p)) × (unit_level (span * p) ≤ 36)
    × (span * p ≡ 16384 * 2 ^ unit_level (span * p))
unit_at_level p span allowed is_span =
    let j = piece_level p in
    let is = power_from_ones span (eqb-true _ _ is_span.0) in
    let k = is.0 in
    let size : span * p ≡ 16384 * 2 ^ (k + j) =
    mul_comm span p ∙ ap (λ n. n * span) (piece_at_level p allowed) ∙ ap (λ n. 16384 * 2 ^ j * n) is.1
    ∙ mul_assoc 16384 (2 ^ j) (2 ^ k) ∙ ap (λ n. 16384 * n) (mul_comm (2 ^ j) (2 ^ k) ∙ sym (pow-add 2 k j)) in
    let level : unit_level (span * p) ≡ k + j =
    level_of_power (span * p) (k + j) size in
    let few : k ≤ 10 = exponents k 10 (omega (arith, is.1, is_span.2)) in (
      omega (arith, level),
      omega (arith, level, few, piece_levels_are_low p allowed),
      size
          ∙ ap (λ n. 16384 * 2 ^ n) (sym level),
    )
