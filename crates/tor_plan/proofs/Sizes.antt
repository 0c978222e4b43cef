-- How many bytes the entries of files have, and how many units.
use Rattle.tor_plan.proofs.Names.{◌≡◌, ℕ, ◌+◌, ◌-◌, ◌*◌, ◌^◌, ◌<◌, ◌≤◌}
use Rattle.tor_plan.proofs.Names.{List, [], ◌∷◌, IsTrue, sum, sum_by, arith, ap, ◌∙◌}
use Rattle.tor_plan.proofs.Names.{sym, subst, ◌⊎◌, inl, inr, mul-le-mul_right, lt_of_mul-lt-mul_right, mul-pos}
use Rattle.tor_plan.proofs.Names.{eqb-true, cases_lt, pow-lt}
use Rattle.tor_plan.proofs.Names.{sum_by-cons, sum_by-le-sum_by, pow-add}
use Rattle.tor_plan.proofs.Names.{div_ceil, is_power_of_two, next_multiple_of, count_ones}
use Rattle.tor_plan.proofs.Names.{lengths_of}
use Rattle.tor_plan.proofs.Names.{IsFileList, Kind, V1, V2, Hybrid}
use Rattle.tor_plan.proofs.Names.{MAX_TOTAL, ROUNDING, padding_length, IsV1PieceLength, Entry, entries_length}
use Rattle.tor_plan.proofs.Names.{lengths_of_entries, IsPlanPieceLength, IsSpan, whole_with_padding}
use Rattle.tor_plan.proofs.Names.{power_from_ones, ceil_few, is_clear}
use Rattle.tor_plan.proofs.EntrySteps.{padding, file, entry_cases}

-- ---- the files of a list

-- the lengths, each rounded up, are not too large together
pub total_small : (files : List (List (List ℕ) × ℕ)) → IsFileList files
    → sum_by (λ m. next_multiple_of m ROUNDING) (lengths_of files) ≤ MAX_TOTAL
total_small files lawful = (is_clear files lawful.faultless).total

-- ---- rounding up

-- a length rounded up to a multiple of p is not longer than rounded up to one of q times p
rounded_times : (p q m : ℕ) → 0 < p → 0 < q * p → m + padding_length p m ≤ m + padding_length (q * p) m
rounded_times p q m some pos =
    let near = whole_with_padding p m some in
    let far = whole_with_padding (q * p) m pos in
    let same : far.0 * (q * p) ≡ far.0 * q * p = omega arith in
    let few : near.0 < far.0 * q + 1 = lt_of_mul-lt-mul_right p (omega (arith, near.1, far.1, same, some)) in
    omega (arith, near.1, far.1, same, mul-le-mul_right {m = near.0} {n = far.0 * q} p (omega (arith, few)))

-- so it is with powers of two
pub rounded : (p m : ℕ) → IsTrue (is_power_of_two p) → 0 < p → p ≤ ROUNDING
    → m + padding_length p m ≤ next_multiple_of m ROUNDING
rounded p m power some le =
    let two = power_from_ones p (eqb-true (count_ones p) 1 power) in
    let k = two.0 in
    let small : k ≤ 30 = elim (cases_lt 30 k) [
      | inl more ↦ absurd (omega (arith, pow-lt more, two.1, le))
      | inr few ↦ few
    ] in
    let split : ROUNDING ≡ 2 ^ (30 - k) * p =
    ap (λ n. 2 ^ n) (let e : 30 ≡ 30 - k + k = omega (arith, small) in e) ∙ pow-add 2 (30 - k) k
    ∙ ap (λ n. 2 ^ (30 - k) * n) (sym two.1) in
    let up : m + padding_length p m ≤ m + padding_length ROUNDING m =
    subst (λ (r : ℕ). m + padding_length p m ≤ m + padding_length r m) (sym split)
    (rounded_times p (2 ^ (30 - k)) m some (omega (arith, split))) in
    omega (arith, up)

-- ---- entries

pub files_within : (entries : List Entry) → sum (lengths_of_entries entries) ≤ entries_length entries
files_within [] = omega arith
files_within (entry ∷ entries) = entry_cases
    (λ e. sum (lengths_of_entries (e ∷ entries)) ≤ entries_length (e ∷ entries))
    (λ label m. omega (arith, files_within entries, sum_by-cons (λ (e : Entry). e.length) (padding label m) entries))
    (λ label m. omega (
      arith,
      files_within entries,
      sum_by-cons (λ (e : Entry). e.length) (file label m) entries,
      sum_by-cons (λ x. x) m (lengths_of_entries entries),
    )) entry

pub few_units : (entries : List Entry) (size : ℕ) → entries_length entries ≤ MAX_TOTAL → 0 < size
    → sum_by (λ m. div_ceil m size) (lengths_of_entries entries) ≤ MAX_TOTAL
few_units entries size small pos =
    let each = sum_by-le-sum_by (λ m. div_ceil m size) (λ m. m) (lengths_of_entries entries)
    (λ m. omega (arith, ceil_few m size pos)) in
    omega (arith, each, files_within entries, small)

-- pieces of torrents with trees have whole blocks, and so have units of at least one piece
pub piece_of_trees : (kind : Kind) (piece_length : ℕ) → (kind ≡ V2) ⊎ (kind ≡ Hybrid)
    → IsPlanPieceLength kind piece_length → 16384 ≤ piece_length
piece_of_trees V1 piece_length (inl is) pieces = cc
piece_of_trees V1 piece_length (inr is) pieces = cc
piece_of_trees kind piece_length is pieces = pieces.1

pub whole_blocks : (span piece_length : ℕ) → 1 ≤ span → 16384 ≤ piece_length → 16384 ≤ span * piece_length
whole_blocks span piece_length some le = omega (arith, mul-le-mul_right {m = 1} {n = span} piece_length some)

-- a piece is not empty, and no unit
pub v1_piece : (kind : Kind) (piece_length : ℕ) → IsPlanPieceLength kind piece_length → IsV1PieceLength piece_length
v1_piece V1 piece_length pieces = pieces
v1_piece kind piece_length pieces = (omega (arith, pieces.1), pieces.2)

pub some_bytes : (kind : Kind) (piece_length span : ℕ) → IsSpan span → IsPlanPieceLength kind piece_length
    → 0 < span * piece_length
some_bytes kind piece_length span is_span pieces =
    mul-pos (omega (arith, is_span.1)) (v1_piece kind piece_length pieces).0
