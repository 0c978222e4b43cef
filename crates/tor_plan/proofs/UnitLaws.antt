-- The pieces of a unit, of those of several units, and what they have together.
use Rattle.tor_plan.proofs.Names.{◌≡◌, ℕ, ◌+◌, ◌-◌, ◌*◌, ◌<◌, ◌≤◌, min, List, [], ◌∷◌, ◌++◌, length, map, take}
use Rattle.tor_plan.proofs.Names.{drop, arith, refl, ap, ap₂, ◌∙◌, sym, mul-le-mul_right, lt_of_mul-lt-mul_right}
use Rattle.tor_plan.proofs.Names.{get_or, zero-add, take-add, div_ceil_times, length-take-le, take_min, take_all}
use Rattle.tor_plan.proofs.Names.{flat_map-append, All-nil, All-append, All-head, All-tail, length-map-range_with_len}
use Rattle.tor_plan.proofs.Names.{get_or-map-range_with_len, div_ceil, All, flat_map, range_with_len, piece_sums}
use Rattle.tor_plan.proofs.Names.{sums_of_joined, unit_content, piece_of_unit, pieces_of_unit, unit_between, IsInFile}
use Rattle.tor_plan.proofs.Names.{IsUnitWithin, unit_length, PlanUnit, ceil_is, piece_sums-nil, below_from_ceil}
use Rattle.tor_plan.proofs.Names.{range_same}
use Rattle.tor_plan.proofs.PieceWithin.{pieces_are_within_files, unit_between_length}
use Rattle.tor_plan.proofs.Runs.{range-add, runs_are}
use Rattle.tor_plan.proofs.UnitContent.{content_between, length_of_content, AreThere}
use Rattle.tor_plan.proofs.UnitRanges.{range_of_range}
use Rattle.tor_plan.proofs.WithinFiles.{all_range}

-- ---- their bytes

module _ (contents : List (List ℕ)) (unit : PlanUnit) (there : AreThere contents unit.parts) where
  abbrev all : List ℕ
  all = unit_content contents unit

  -- what so many bytes have, and the next piece
  content_step : (size k : ℕ) → take (k * size) all ++ unit_content contents (piece_of_unit size unit k)
      ≡ take (min (unit_length unit) ((k + 1) * size)) all
  content_step size k =
      let end : k * size + size ≡ (k + 1) * size = omega arith in
      ap (λ ys. take (k * size) all ++ ys) (content_between contents (k * size) ((k + 1) * size) unit there
      ∙ ap₂ (λ n j. take n (drop j all)) (omega arith) (omega arith))
      ∙ sym (take-add (k * size) size all) ∙ ap (λ n. take n all) end ∙ sym (take_min ((k + 1) * size) all)
      ∙ ap (λ n. take n all) (omega (arith, length_of_content contents unit there))

  whole : take (unit_length unit) all ≡ all
  whole = take_all (unit_length unit) all (omega (arith, length_of_content contents unit there))

  pub content_of_pieces : (size : ℕ) → 0 < size → flat_map (unit_content contents) (pieces_of_unit size unit) ≡ all
  unfolding pieces_of_unit
  content_of_pieces size pos =
      runs_are (unit_content contents) (piece_of_unit size unit) (λ n. take n all) (unit_length unit) size pos
      (λ k less. content_step size k) refl ∙ whole

  pub sums_of_pieces : (p span : ℕ) → 0 < p → 0 < span * p
      → flat_map (λ u. piece_sums p (unit_content contents u)) (pieces_of_unit (span * p) unit) ≡ piece_sums p all
  unfolding pieces_of_unit
  sums_of_pieces p span some pos =
      let size = span * p in
      runs_are (λ u. piece_sums p (unit_content contents u)) (piece_of_unit size unit)
      (λ n. piece_sums p (take n all)) (unit_length unit) size pos (λ k less.
      sym (sums_of_joined p (k * span) (take (k * size) all) (unit_content contents (piece_of_unit size unit k)) some
      (length-take-le (k * size) all (omega (arith, less, length_of_content contents unit there)) ∙ (omega arith)))
      ∙ ap (piece_sums p) (content_step size k)) (piece_sums-nil p some) ∙ ap (piece_sums p) whole

-- ---- their pieces

module _ (p span : ℕ) (some : 0 < p) (pos : 0 < span * p) (unit : PlanUnit) where
  abbrev size : ℕ
  size = span * p

  piece_of_piece : (k j : ℕ) → (j + 1) * p ≤ size
      → piece_of_unit p (piece_of_unit size unit k) j ≡ piece_of_unit p unit (k * span + j)
  piece_of_piece k j le =
      range_of_range (j * p) ((j + 1) * p) (k * size) ((k + 1) * size) unit ∙ ap₂ (λ a b. unit_between a b unit)
      (omega arith) (omega (arith, le))

  -- the pieces of so many bytes, and those of the next unit
  pieces_step : (k : ℕ) → k * size < unit_length unit
      → map (piece_of_unit p unit) (range_with_len 0 (div_ceil (k * size) p))
      ++ pieces_of_unit p (piece_of_unit size unit k)
      ≡ map (piece_of_unit p unit) (range_with_len 0 (div_ceil (min (unit_length unit) ((k + 1) * size)) p))
  unfolding pieces_of_unit
  pieces_step k less =
      let next : (k + 1) * size ≡ k * size + size = omega arith in
      let n = min (unit_length unit - k * size) size in
      let count = div_ceil n p in
      let few = div_ceil_times n p some in
      let long : unit_length (piece_of_unit size unit k) ≡ n =
      omega (arith, unit_between_length (k * size) ((k + 1) * size) unit, next) in
      let before : k * size ≡ k * span * p = omega arith in
      let split : (k * span + count) * p ≡ k * size + count * p = omega arith in
      ap₂ (λ q xs. map (piece_of_unit p unit) (range_with_len 0 q) ++ xs)
      (ceil_is (k * size) p (k * span) (omega (arith, before)) (omega (arith, before, some)))
      (ap (λ m. map (piece_of_unit p (piece_of_unit size unit k)) (range_with_len 0 (div_ceil m p))) long
      ∙ range_same (piece_of_unit p (piece_of_unit size unit k)) (λ j. piece_of_unit p unit (k * span + j)) count
      (λ j lt.
      let fits : j < span = lt_of_mul-lt-mul_right p (omega (arith, below_from_ceil n p j some lt)) in
      piece_of_piece k j (mul-le-mul_right {m = j + 1} {n = span} p (omega (arith, fits)))))
      ∙ range-add (piece_of_unit p unit) (k * span) count ∙ ap (λ q. map (piece_of_unit p unit) (range_with_len 0 q))
      (sym (ceil_is (min (unit_length unit) ((k + 1) * size)) p (k * span + count)
      (omega (arith, split, few.0, less, next)) (omega (arith, split, few.1, less, next))))

  pub pieces_of_pieces : flat_map (pieces_of_unit p) (pieces_of_unit size unit) ≡ pieces_of_unit p unit
  unfolding pieces_of_unit
  pieces_of_pieces =
      runs_are (pieces_of_unit p) (piece_of_unit size unit)
      (λ n. map (piece_of_unit p unit) (range_with_len 0 (div_ceil n p))) (unit_length unit) size pos pieces_step
      (ap (λ q. map (piece_of_unit p unit) (range_with_len 0 q)) (ceil_is 0 p 0 (omega arith) (omega (arith, some))))

-- each piece but the last is whole
pub whole_piece : (size : ℕ) → 0 < size → (unit : PlanUnit) (k : ℕ) (d : PlanUnit)
    → k + 1 < length (pieces_of_unit size unit) → unit_length (get_or (pieces_of_unit size unit) k d) ≡ size
unfolding pieces_of_unit
whole_piece size pos unit k d lt =
    let n = div_ceil (unit_length unit) size in
    let less : k + 1 < n = omega (arith, lt, length-map-range_with_len (piece_of_unit size unit) 0 n) in
    ap unit_length (get_or-map-range_with_len (piece_of_unit size unit) 0 n k k d (omega (arith, less)) (zero-add k))
    ∙ omega (
      arith,
      unit_between_length (k * size) ((k + 1) * size) unit,
      below_from_ceil (unit_length unit) size (k + 1) pos less,
    )

-- ---- of several units

pub within_units : (lengths : List ℕ) (size : ℕ) → 0 < size → (units : List PlanUnit)
    → All (λ u. All (IsInFile lengths) u.parts) units
    → All (IsUnitWithin lengths size) (flat_map (pieces_of_unit size) units)
unfolding pieces_of_unit
within_units lengths size pos [] held = All-nil (IsUnitWithin lengths size)
within_units lengths size pos (unit ∷ units) held =
    let Held : PlanUnit → Type 0 = λ u. All (IsInFile lengths) u.parts in
    All-append (IsUnitWithin lengths size) (pieces_of_unit size unit) (flat_map (pieces_of_unit size) units)
    (all_range (IsUnitWithin lengths size) (piece_of_unit size unit) (div_ceil (unit_length unit) size)
    (λ k lt. pieces_are_within_files lengths size k unit (All-head Held unit units held)))
    (within_units lengths size pos units (All-tail Held unit units held))

-- what all pieces of each unit give is what the units give
pub each_unit : {Y : Type 0} (f : PlanUnit → List Y) (size : ℕ) (P : PlanUnit → Type 0)
    → ((u : PlanUnit) → P u → flat_map f (pieces_of_unit size u) ≡ f u) → (units : List PlanUnit) → All P units
    → flat_map f (flat_map (pieces_of_unit size) units) ≡ flat_map f units
each_unit f n P same [] held = refl
each_unit f n P same (unit ∷ units) held =
    flat_map-append f (pieces_of_unit n unit) (flat_map (pieces_of_unit n) units)
    ∙ ap₂ (λ xs ys. xs ++ ys) (same unit (All-head P unit units held))
    (each_unit f n P same units (All-tail P unit units held))
