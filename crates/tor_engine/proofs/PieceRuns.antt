-- Pieces of a plan that stand one after another: each is its own only piece, and a run goes on from unit to unit.
use Rattle.std.proofs.Common.{◌≡◌, ℕ, ◌+◌, ◌-◌, ◌*◌, ◌<◌, ◌≤◌, List, [], ◌∷◌, ◌++◌, length, take, drop, get_or}
use Rattle.std.proofs.Common.{arith, inl, inr, min, mul-le-mul_right, refl, subst, sym, ap, ap₂, ◌∙◌, zero, suc}
use Rattle.std.specs.Prelude.{◌⊎◌}
use Rattle.std.specs.Int.{div_ceil}
use Rattle.std.specs.List.{All, AllByRecursion, flat_map}
use Rattle.std.proofs.lemmas.Bool.{cases_lt}
use Rattle.std.proofs.lemmas.Grind.{div_ceil_times}
use Rattle.std.proofs.lemmas.List.{drop-take, length-append, length-drop, take_all}
use Rattle.std.proofs.lemmas.List.Elements.{All-from_recursion, recursion_from_All}
use Rattle.std.proofs.lemmas.List.FromFn.{length-map-range_with_len}
use Rattle.tor_plan.proofs.ProvedLaws.{entry_units_are_within_files, units_are_cut_into_pieces}
use Rattle.tor_plan.specs.Entries.{entry_units}
use Rattle.tor_plan.specs.Pieces.{piece_of_unit, pieces_of_unit}
use Rattle.tor_plan.specs.PlanFacts.{IsPlan, PlanFacts}
use Rattle.tor_plan.specs.WithinEntries.{IsUnitWithin, unit_length}
use Rattle.tor_plan.specs.declared.units.PlanUnit.{PlanUnit}
use Rattle.tor_sums.proofs.FileHashes.{some_piece}
use Rattle.tor_engine.specs.PieceHashes.{pieces_of_plan}
use Rattle.tor_engine.specs.Rows.{units_between}
use Rattle.tor_engine.specs.steps.Pieces.{IsPiece, IsUnitToHash}
use Rattle.tor_engine.proofs.PlanPieces.{each_list}

-- ---- runs

drop_both : (n : ℕ) (xs ys : List PlanUnit) → drop n (xs ++ ys) ≡ drop n xs ++ drop (n - length xs) ys
drop_both zero xs ys = ap (λ k. xs ++ drop k ys) (let e : 0 ≡ 0 - length xs = omega arith in e)
drop_both (suc n) [] ys = ap (λ k. drop k ys) (let e : suc n ≡ suc n - 0 = omega arith in e)
drop_both (suc n) (x ∷ xs) ys =
    drop_both n xs ys
    ∙ ap (λ k. drop n xs ++ drop k ys) (let e : n - length xs ≡ suc n - suc (length xs) = omega arith in e)

take_both : (n : ℕ) (xs ys : List PlanUnit) → take n (xs ++ ys) ≡ take n xs ++ take (n - length xs) ys
take_both zero xs ys = ap (λ k. take k ys) (let e : 0 ≡ 0 - length xs = omega arith in e)
take_both (suc n) [] ys = ap (λ k. take k ys) (let e : suc n ≡ suc n - 0 = omega arith in e)
take_both (suc n) (x ∷ xs) ys =
    ap (λ rest. x ∷ rest) (take_both n xs ys
    ∙ ap (λ k. take n xs ++ take k ys) (let e : n - length xs ≡ suc n - suc (length xs) = omega arith in e))

drop_past : (n : ℕ) (xs : List PlanUnit) → length xs ≤ n → drop n xs ≡ []
drop_past zero [] past = refl
drop_past zero (x ∷ xs) past = absurd (omega (arith, past))
drop_past (suc n) [] past = refl
drop_past (suc n) (x ∷ xs) past = drop_past n xs (omega (arith, past))

take_none : (n : ℕ) → take {A = PlanUnit} n [] ≡ []
take_none zero = refl
take_none (suc n) = refl

pub between_none : (from to : ℕ) → units_between from to [] ≡ []
between_none from to = ap (take (to - from)) (drop_past from [] (omega arith)) ∙ take_none (to - from)

-- of a list, and of one behind it
pub between_more : (from to : ℕ) (xs ys : List PlanUnit) → from ≤ to
    → units_between from to (xs ++ ys)
    ≡ units_between from to xs ++ units_between (from - length xs) (to - length xs) ys
between_more from to xs ys le =
    let left = drop from xs in
    let right = drop (from - length xs) ys in
    let long = length-drop from xs in
    ap (take (to - from)) (drop_both from xs ys)
    ∙ take_both (to - from) left right
    ∙ ap (λ k. take (to - from) left ++ take k right)
    (let e : to - from - length left ≡ to - length xs - (from - length xs) = omega (arith, le, long) in e)

-- all of them
pub between_all : (to : ℕ) (xs : List PlanUnit) → length xs ≤ to → units_between 0 to xs ≡ xs
between_all to xs le = take_all (to - 0) xs (omega (arith, le))

-- the first ones left out of those before the end
pub between_cut : (from to skipped : ℕ) (xs : List PlanUnit) → from ≤ to → skipped ≡ min from (length (take to xs))
    → drop skipped (take to xs) ≡ units_between from to xs
between_cut from to skipped xs le is =
    ap (λ k. drop k (take to xs)) is
    ∙ by_past (cases_lt (length (take to xs)) from)
    ∙ ap (λ k. drop from (take k xs)) (let e : to ≡ from + (to - from) = omega (arith, le) in e)
    ∙ drop-take from (to - from) xs
  where
    by_past : (length (take to xs) < from) ⊎ (from ≤ length (take to xs))
        → drop (min from (length (take to xs))) (take to xs) ≡ drop from (take to xs)
    by_past (inl past) =
        drop_past (min from (length (take to xs))) (take to xs) (omega (arith, past))
        ∙ sym (drop_past from (take to xs) (omega (arith, past)))
    by_past (inr within) = ap (λ k. drop k (take to xs)) (omega (arith, within))

dropped : {X : Type 0} (P : X → Type 0) (n : ℕ) (xs : List X) → AllByRecursion P xs → AllByRecursion P (drop n xs)
dropped P zero xs all = all
dropped P (suc n) [] all = tt
dropped P (suc n) (x ∷ xs) all = dropped P n xs all.1

taken : {X : Type 0} (P : X → Type 0) (n : ℕ) (xs : List X) → AllByRecursion P xs → AllByRecursion P (take n xs)
taken P zero xs all = tt
taken P (suc n) [] all = tt
taken P (suc n) (x ∷ xs) all = (all.0, taken P n xs all.1)

pub between_each : (P : PlanUnit → Type 0) (from to : ℕ) (xs : List PlanUnit) → AllByRecursion P xs
    → AllByRecursion P (units_between from to xs)
between_each P from to xs all = taken P (to - from) (drop from xs) (dropped P from xs all)

-- ---- each piece by itself

few : {X : Type 0} (g : X → List X) (us : List X) → AllByRecursion (λ u. length (g u) ≤ 1) us
    → length (flat_map g us) ≤ length us
few g [] small = omega arith
few g (u ∷ us) small =
    let all = length-append (g u) (flat_map g us) in
    let rest = few g us small.1 in
    let here = small.0 in
    omega (arith, all, rest, here)

each_alone : {X : Type 0} (g : X → List X) (us : List X) → AllByRecursion (λ u. length (g u) ≤ 1) us
    → flat_map g us ≡ us → AllByRecursion (λ u. g u ≡ u ∷ []) us
each_alone g [] small are = tt
each_alone {X} g (u ∷ us) small are = by (g u) refl small.0 (each_alone g us small.1) where
  first : (xs : List X) → g u ≡ xs → xs ++ flat_map g us ≡ u ∷ us
  first xs is = ap (λ ys. ys ++ flat_map g us) (sym is) ∙ are

  by : (xs : List X) → g u ≡ xs → length xs ≤ 1
      → (flat_map g us ≡ us → AllByRecursion (λ u. g u ≡ u ∷ []) us)
      → (g u ≡ u ∷ []) × AllByRecursion (λ u. g u ≡ u ∷ []) us
  by [] is le later =
      let more = ap length (first [] is) in
      let less = few g us small.1 in
      absurd (omega (arith, more, less))
  by (x ∷ []) is le later =
      let all = first (x ∷ []) is in
      (is ∙ ap (λ y. y ∷ []) (ap (λ ys. get_or ys 0 u) all), later (ap (drop 1) all))
  by (x ∷ y ∷ xs) is le later = absurd (omega (arith, le))

pub alone_joined : {X : Type 0} (g : X → List X) (us : List X) → AllByRecursion (λ u. g u ≡ u ∷ []) us
    → flat_map g us ≡ us
alone_joined g [] alone = refl
alone_joined g (u ∷ us) alone = ap₂ (λ xs ys. xs ++ ys) alone.0 (alone_joined g us alone.1)

one_piece : (n p : ℕ) → 0 < p → n ≤ 1 * p → div_ceil n p ≤ 1
one_piece n p some le = elim (cases_lt 1 (div_ceil n p)) [
  | inl more ↦
      let two : 2 ≤ div_ceil n p = omega (arith, more) in
      let over : 2 * p ≤ div_ceil n p * p = mul-le-mul_right p two in
      let bound = (div_ceil_times n p some).1 in
      absurd (omega (arith, over, bound, le))
  | inr le ↦ le
]

module _ (plan : PlanFacts) (is : IsPlan plan) where
  abbrev p : ℕ
  p = plan.piece_length

  abbrev IsAlone : PlanUnit → Type 0
  IsAlone piece = pieces_of_unit p piece ≡ piece ∷ []

  some : 0 < p
  some = some_piece plan.kind p is.pieces

  few_pieces : (lengths : List ℕ) (u : PlanUnit) → IsUnitWithin lengths (1 * p) u → length (pieces_of_unit p u) ≤ 1
  unfolding pieces_of_unit
  few_pieces lengths u fits =
      let count = length-map-range_with_len (piece_of_unit p u) 0 (div_ceil (unit_length u) p) in
      let one = one_piece (unit_length u) p some fits.within in
      omega (arith, count, one)

  all_few : (lengths : List ℕ) (us : List PlanUnit) → AllByRecursion (IsUnitWithin lengths (1 * p)) us
      → AllByRecursion (λ u. length (pieces_of_unit p u) ≤ 1) us
  all_few lengths [] all = tt
  all_few lengths (u ∷ us) all = (few_pieces lengths u all.0, all_few lengths us all.1)

  all_alone : AllByRecursion IsAlone (entry_units plan.kind p 1 is.entries)
  all_alone =
      let units = entry_units plan.kind p 1 is.entries in
      each_alone (pieces_of_unit p) units
      (all_few _ units (recursion_from_All _ units
      (entry_units_are_within_files plan.kind p 1 is.entries (omega arith) some is.is_list.laid_out)))
      (units_are_cut_into_pieces plan.kind p 1 is.entries some (omega arith) is.is_list.laid_out)

  cut : pieces_of_plan plan ≡ entry_units plan.kind p 1 is.entries
  cut =
      ap (λ (facts : PlanFacts). flat_map (pieces_of_unit p) facts.units) is.made
      ∙ units_are_cut_into_pieces plan.kind p is.span is.entries some (omega (arith, is.is_span.1)) is.is_list.laid_out

  -- those of each unit
  pub pieces_are_alone : AllByRecursion (λ unit. AllByRecursion IsAlone (pieces_of_unit p unit)) plan.units
  pieces_are_alone =
      each_list IsAlone (pieces_of_unit p) plan.units
      (subst (λ (units : List PlanUnit). AllByRecursion IsAlone units) (sym cut) all_alone)

-- a piece that is its own only piece is a unit to hash
module _ (plan : PlanFacts) where
  piece_to_hash : (piece : PlanUnit) → IsPiece plan piece → pieces_of_unit plan.piece_length piece ≡ piece ∷ []
      → IsUnitToHash plan piece
  piece_to_hash piece is alone = record {
    within = is.unit;
    pieces = subst (λ (pieces : List PlanUnit). All (IsPiece plan) pieces) (sym alone)
        (All-from_recursion (IsPiece plan) (piece ∷ []) (is, tt));
  }

  pub pieces_to_hash : (pieces : List PlanUnit) → AllByRecursion (IsPiece plan) pieces
      → AllByRecursion (λ piece. pieces_of_unit plan.piece_length piece ≡ piece ∷ []) pieces
      → AllByRecursion (IsUnitToHash plan) pieces
  pieces_to_hash [] are alone = tt
  pieces_to_hash (piece ∷ pieces) are alone =
      (piece_to_hash piece are.0 alone.0, pieces_to_hash pieces are.1 alone.1)
