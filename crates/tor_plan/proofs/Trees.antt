-- The trees of files, one file after another: runs of units, apart and in order, and low.
use Rattle.tor_plan.proofs.Names.{◌≡◌, ℕ, zero, suc, ◌+◌, ◌*◌, ◌^◌, ◌<◌, ◌≤◌, cond, ltb, List, [], ◌∷◌, ◌++◌}
use Rattle.tor_plan.proofs.Names.{length, get_or, drop, arith, ap, ◌∙◌, sym, append_assoc, append-nil, inl, inr}
use Rattle.tor_plan.proofs.Names.{pow-suc, pow-lt, lt-ltb, le-ltb, le-leb, lt-leb, cases_lt, cases_order, cond-true}
use Rattle.tor_plan.proofs.Names.{cond-false, drop_all, drop_more, div_ceil, Run, log2, unit_level, trees_from, ◌-◌}
use Rattle.tor_plan.proofs.Names.{◌/◌, map, sum_by, refl, ap₂, subst, mul_comm, mul_assoc, mul-le-mul_right}
use Rattle.tor_plan.proofs.Names.{mul-pos, pow-add, length-append, length-map}
use Rattle.tor_plan.proofs.Names.{All-head, All-tail, length-range_with_len, sum_by-cons, All, range_with_len}
use Rattle.tor_plan.proofs.Names.{height_least, height, Kind, V1, MAX_LENGTH, Entry, entries_length, entry_units}
use Rattle.tor_plan.proofs.Names.{joined_entry_unit, joined_entry_units, lengths_of_entries, padding_before_next}
use Rattle.tor_plan.proofs.Names.{separate_entry_units, IsEntryList, AreRuns, forest_trees, IsPlan, IsPlanPieceLength}
use Rattle.tor_plan.proofs.Names.{IsSpan, PlanFacts, file_unit, ceil_at_most, pow-le-pow_right, ceil_few}
use Rattle.tor_plan.proofs.EntrySteps.{entry_cases}
use Rattle.tor_plan.proofs.Sizes.{few_units, whole_blocks}

-- ---- the binary logarithm

pub log2_bounds : (n : ℕ) → (2 ^ log2 (suc n) ≤ suc n) × (suc n < 2 ^ suc (log2 (suc n)))
unfolding log2
log2_bounds zero = (omega arith, omega arith)
log2_bounds (suc n) =
    let k = log2 (suc n) in
    let bounds = log2_bounds n in
    elim (cases_lt (suc (suc n)) (2 ^ suc k)) [
      | inl less ↦ rw (lt-leb (2 ^ suc k) (suc (suc n)) less) (
        let low : 2 ^ k ≤ suc (suc n) = omega (arith, bounds.0) in low,
        less,
      )
      | inr le ↦ rw (le-leb (2 ^ suc k) (suc (suc n)) le) (le, omega (arith, bounds.1, pow-suc 2 (suc k)))
    ]

grown : (i j : ℕ) → i ≤ j → 2 ^ i ≤ 2 ^ j
grown i j le = pow-le-pow_right {n = 2} (omega arith) {i = i} {j = j} le

-- no other number has both bounds
pub log2_is : (n k : ℕ) → 0 < n → 2 ^ k ≤ n → n < 2 * 2 ^ k → k ≡ log2 n
log2_is zero k some low high = absurd (omega arith)
log2_is (suc n) k some low high =
    let bounds = log2_bounds n in
    let k_next = pow-suc 2 k in
    elim (cases_order k (log2 (suc n))) [
      | inl same ↦ same
      | inr (inl less) ↦ absurd (omega (arith, bounds.0, high, grown (suc k) (log2 (suc n)) (omega arith), k_next))
      | inr (inr more) ↦ absurd (omega (arith, bounds.1, low, grown (suc (log2 (suc n))) k (omega arith)))
    ]

-- ---- the trees from a file on

module _ (size first : ℕ) (lengths : List ℕ) (i : ℕ) (before all : List Run) (lt : i < length lengths)
    (so_far : before ++ trees_from size first (drop i lengths) ≡ all) where
  abbrev m : ℕ
  m = get_or lengths i 0

  abbrev rest : List Run
  rest = trees_from size (first + div_ceil m size) (drop (i + 1) lengths)

  from_file : trees_from size first (drop i lengths) ≡ cond (ltb 1 (div_ceil m size))
      (record { first = first; count = div_ceil m size; level = unit_level size } ∷ []) [] ++ rest
  unfolding trees_from
  from_file = ap (trees_from size first) (drop_more lengths i 0 lt)

  pub one_tree : (run : Run) → 1 < div_ceil m size
      → run ≡ record { first = first; count = div_ceil m size; level = unit_level size }
      → (before ++ run ∷ []) ++ rest ≡ all
  one_tree run several is =
      append_assoc before (run ∷ []) rest ∙ ap (λ x. before ++ (x ∷ rest)) is
      ∙ ap (λ xs. before ++ (xs ++ rest)) (sym (cond-true _ _ _ (lt-ltb 1 (div_ceil m size) several)))
      ∙ ap (λ xs. before ++ xs) (sym from_file) ∙ so_far

  pub no_tree : div_ceil m size ≤ 1 → before ++ rest ≡ all
  no_tree few =
      ap (λ xs. before ++ (xs ++ rest)) (sym (cond-false _ _ _ (le-ltb 1 (div_ceil m size) few)))
      ∙ ap (λ xs. before ++ xs) (sym from_file) ∙ so_far

-- after the last file
pub trees-end : (size first : ℕ) (lengths : List ℕ) (i : ℕ) (before all : List Run) → length lengths ≤ i
    → before ++ trees_from size first (drop i lengths) ≡ all → before ≡ all
unfolding trees_from
trees-end size first lengths i before all le so_far =
    sym (append-nil before) ∙ ap (λ xs. before ++ trees_from size first xs) (sym (drop_all i lengths le)) ∙ so_far

-- how many units files of these lengths have, each cut by itself
abbrev count_units : ℕ → List ℕ → ℕ
count_units size lengths = sum_by (λ m. div_ceil m size) lengths

units_counted : (size index : ℕ) (entries : List Entry)
    → length (separate_entry_units size index entries) ≡ count_units size (lengths_of_entries entries)
unfolding separate_entry_units
units_counted size index [] = refl
units_counted size index (entry ∷ entries) = entry_cases
    (λ e. length (separate_entry_units size index (e ∷ entries)) ≡ count_units size (lengths_of_entries (e ∷ entries)))
    (λ label m. units_counted size index entries) (λ label m.
    length-append (map (file_unit size index m (padding_before_next entries)) (range_with_len 0 (div_ceil m size))) _
    ∙ ap₂ (λ x y. x + y) (length-map (range_with_len 0 (div_ceil m size)) _ ∙ length-range_with_len 0 (div_ceil m size))
    (units_counted size (index + 1) entries) ∙ sym (sum_by-cons (λ n. div_ceil n size) m (lengths_of_entries entries)))
    entry

-- ---- a tree is low

log2_within : (n : ℕ) → 0 < n → 2 ^ log2 n ≤ n
log2_within zero some = absurd (omega arith)
log2_within (suc n) some = (log2_bounds n).0

low_tree : (size m : ℕ) → 16384 ≤ size → size ≤ 2 ^ 40 → m ≤ MAX_LENGTH
    → unit_level size + height (div_ceil m size) ≤ 36
low_tree size m least most small =
    let level = unit_level size in
    let within : 2 ^ level ≤ size / 16384 = log2_within (size / 16384) (omega (arith, least)) in
    let low : level ≤ 26 = elim (cases_lt 26 level) [
      | inl more ↦ absurd (omega (arith, pow-lt more, within, most))
      | inr le ↦ le
    ] in
    let all : 2 ^ 36 ≡ 2 ^ (36 - level) * 2 ^ level =
    ap (λ n. 2 ^ n) (let e : 36 ≡ 36 - level + level = omega (arith, low) in e) ∙ pow-add 2 (36 - level) level in
    let wide : 2 ^ level * 16384 ≤ size = omega (arith, within) in
    let up : 2 ^ level * 16384 * 2 ^ (36 - level) ≤ size * 2 ^ (36 - level) =
    mul-le-mul_right (2 ^ (36 - level)) wide in
    let turned : 2 ^ level * 16384 * 2 ^ (36 - level) ≡ 2 ^ (36 - level) * 2 ^ level * 16384 =
    mul_comm (2 ^ level * 16384) (2 ^ (36 - level)) ∙ sym (mul_assoc (2 ^ (36 - level)) (2 ^ level) 16384) in
    let few : div_ceil m size ≤ 2 ^ (36 - level) = ceil_at_most m size (2 ^ (36 - level)) (omega (arith, least))
    (omega (arith, small, all, up, turned, mul_comm size (2 ^ (36 - level)))) in
    omega (arith, low, height_least (div_ceil m size) (36 - level) few)

-- ---- the trees from a file on

runs : (units size from first : ℕ) (lengths : List ℕ) → 16384 ≤ size → size ≤ 2 ^ 40
    → All (λ m. m ≤ MAX_LENGTH) lengths → from ≤ first → first + count_units size lengths ≤ units
    → AreRuns units from (trees_from size first lengths)
unfolding AreRuns trees_from
runs units size from first [] least most small after within = tt
runs units size from first (m ∷ lengths) least most small after within =
    let more : count_units size (m ∷ lengths) ≡ div_ceil m size + count_units size lengths =
    sum_by-cons (λ n. div_ceil n size) m lengths in
    let later = All-tail (λ n. n ≤ MAX_LENGTH) m lengths small in
    elim (cases_lt 1 (div_ceil m size)) [
      | inl several ↦ rw (lt-ltb 1 (div_ceil m size) several) (
        after,
        several,
        omega (arith, more, within),
        low_tree size m least most (All-head (λ n. n ≤ MAX_LENGTH) m lengths small),
        runs units size (first + div_ceil m size) (first + div_ceil m size) lengths least most later
            (omega arith) (omega (arith, more, within)),
      )
      | inr one ↦ rw (le-ltb 1 (div_ceil m size) one)
          (runs units size from (first + div_ceil m size) lengths least most later (omega (arith, after))
          (omega (arith, more, within)))
    ]

-- ---- the trees of a plan

module _ (piece_length span : ℕ) (entries : List Entry) (is_span : IsSpan span) where
  abbrev size : ℕ
  size = span * piece_length

  separate : (kind : Kind) → 16384 ≤ piece_length → piece_length ≤ 2 ^ 30 → IsEntryList kind piece_length entries
      → AreRuns (length (separate_entry_units size 0 entries)) 0 (trees_from size 0 (lengths_of_entries entries))
  separate kind least most is_list =
      let long : span * piece_length ≤ 1024 * piece_length =
      mul-le-mul_right {m = span} {n = 1024} piece_length is_span.2 in
      let counted = units_counted size 0 entries in
      runs (length (separate_entry_units size 0 entries)) size 0 0 (lengths_of_entries entries)
      (whole_blocks span piece_length is_span.1 least) (omega (arith, long, most)) is_list.files (omega arith)
      (omega (arith, counted))

  by_kind : (kind : Kind) → IsPlanPieceLength kind piece_length → IsEntryList kind piece_length entries
      → AreRuns (length (entry_units kind piece_length span entries)) 0
      (forest_trees kind size (lengths_of_entries entries))
  unfolding AreRuns
  by_kind V1 pieces is_list = tt
  by_kind kind pieces is_list = separate kind pieces.1 pieces.2 is_list

pub trees_are_runs : (plan : PlanFacts) → IsPlan plan → AreRuns (length plan.units) 0 plan.trees
trees_are_runs plan is = subst (λ (p : PlanFacts). AreRuns (length p.units) 0 p.trees) (sym is.made)
    (by_kind plan.piece_length is.span is.entries is.is_span plan.kind is.pieces is.is_list)

-- ---- the units of a plan

units_few : (kind : Kind) (piece_length span : ℕ) (entries : List Entry) → IsSpan span
    → IsPlanPieceLength kind piece_length → IsEntryList kind piece_length entries
    → length (entry_units kind piece_length span entries) ≤ 2 ^ 62
unfolding joined_entry_units
units_few V1 piece_length span entries is_span pieces is_list =
    let size = span * piece_length in
    let counted =
    length-map (range_with_len 0 (div_ceil (entries_length entries) size)) (joined_entry_unit size entries)
    ∙ length-range_with_len 0 (div_ceil (entries_length entries) size) in
    let some : 0 < size = mul-pos (omega (arith, is_span.1)) (omega (arith, pieces)) in
    omega (arith, counted, ceil_few (entries_length entries) size some, is_list.total)
units_few kind piece_length span entries is_span pieces is_list =
    let size = span * piece_length in
    let some : 0 < size = omega (arith, whole_blocks span piece_length is_span.1 pieces.1) in
    omega (arith, units_counted size 0 entries, few_units entries size is_list.total some)

pub units_are_few : (plan : PlanFacts) → IsPlan plan → length plan.units ≤ 2 ^ 62
units_are_few plan is = subst (λ (p : PlanFacts). length p.units ≤ 2 ^ 62) (sym is.made)
    (units_few plan.kind plan.piece_length is.span is.entries is.is_span is.pieces is.is_list)
