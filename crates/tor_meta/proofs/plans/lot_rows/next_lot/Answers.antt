-- the units of the lot
use Rattle.std.proofs.Common.{◌≡◌, ◌<◌, ◌∙◌, ◌+◌, ℕ, false, List, None, Ok, Option, Some, ap, ap₂, arith, get_or}
use Rattle.std.proofs.Common.{◌≢◌, true, inl, inr, is_some, length, not, option_map, refl, subst, sym}
use Rattle.std.proofs.lemmas.List.{get_or_default}
use Rattle.std.proofs.lemmas.Slice.Eq.{bytes_eq-Decides}
use Rattle.std.specs.Cmp.Lexicographic.{pointwise}
use Rattle.std.specs.Prelude.{nat_eq}
use Rattle.tor_meta.proofs.Judged.{allowed}
use Rattle.tor_meta.specs.steps.Join.{AreSlots, row_in}
use Rattle.tor_engine.specs.Rows.{units_between}
use Rattle.tor_engine.specs.declared.lot.PieceRow.{PieceRow}
use Rattle.tor_meta.specs.Lots.{HasLotPieces, row_at}
use Rattle.tor_parts.specs.Dealing.{dealt, first_unit}
use Rattle.tor_parts.specs.LotCounts.{HasOwnPieces}
use Rattle.tor_parts.specs.LotText.{LotFacts, facts_of}
use Rattle.tor_parts.specs.declared.lot_text.Lot.{Lot}
use Rattle.tor_parts.proofs.ProvedLaws.{lots_begin_in_order, lots_begin_within}
use Rattle.tor_plan.specs.PlanFacts.{PlanFacts}
use Rattle.tor_plan.specs.declared.units.PlanUnit.{PlanUnit}
use Rattle.tor_engine.proofs.ProvedLaws.{stopped, stopped_by}
use Rattle.tor_meta.proofs.plans.lot_rows.next_lot.Goals as goal

of_lot : (plan : PlanFacts) (count : ℕ) (lot : Lot) → lot.lots ≡ count
    → HasOwnPieces plan (dealt count lot.number plan.units) lot.row → HasLotPieces plan (facts_of lot)
of_lot plan count lot counted own =
    let same = subst (λ (n : ℕ). HasOwnPieces plan (dealt n lot.number plan.units) lot.row) (sym counted) own in
    record { hashes = same.hashes; sums = same.sums }

of_own : (plan : PlanFacts) (count : ℕ) (lot : Lot) → lot.lots ≡ count → HasLotPieces plan (facts_of lot)
    → HasOwnPieces plan (dealt count lot.number plan.units) lot.row
of_own plan count lot counted pieces =
    let same : HasOwnPieces plan (dealt lot.lots lot.number plan.units) lot.row =
    record { hashes = pieces.hashes; sums = pieces.sums } in
    subst (λ (n : ℕ). HasOwnPieces plan (dealt n lot.number plan.units) lot.row) counted same

pub has_own_pieces-requires-clause-ordered : goal.has_own_pieces-requires-clause-ordered
has_own_pieces-requires-clause-ordered c =
    let lot = c.in-Some.lot in
    let is = (c.in_ok-lot.ensures.read lot (ap Ok c.in-Some.is)).1 in
    let same : lot.lots ≡ c.args.count = c.if-lot-count.false in
    let grows = lots_begin_in_order c.args.count c.args.plan.now.units lot.number in
    omega (
      arith,
      grows,
      c.requires.firsts lot.number (omega (arith, is.number, same)),
      c.requires.firsts (lot.number + 1) (omega (arith, is.number, same)),
    )

pub has_own_pieces-requires-clause-within : goal.has_own_pieces-requires-clause-within
has_own_pieces-requires-clause-within c =
    let lot = c.in-Some.lot in
    let is = (c.in_ok-lot.ensures.read lot (ap Ok c.in-Some.is)).1 in
    let same : lot.lots ≡ c.args.count = c.if-lot-count.false in
    omega (
      arith,
      lots_begin_within c.args.count c.args.plan.now.units (lot.number + 1),
      c.requires.firsts (lot.number + 1) (omega (arith, is.number, same)),
    )

no_row : (o : Option PieceRow) → false ≡ is_some o → o ≡ None
no_row None none = refl
no_row (Some row) none = cc

equal : (xs ys : List ℕ) → false ≡ not (pointwise nat_eq xs ys) → xs ≡ ys
equal xs ys same = (bytes_eq-Decides xs ys).0 (allowed (pointwise nat_eq xs ys) (sym same))

fresh_row : (slots : List (Option PieceRow)) (earlier : List LotFacts) (number : ℕ) (o : Option PieceRow)
    → number < length slots → AreSlots slots earlier → o ≡ get_or slots number o → false ≡ is_some o
    → row_at number earlier ≡ None
fresh_row slots earlier number o there slotted is none =
    let empty : get_or slots number None ≡ None =
    get_or_default slots number None o there ∙ sym is ∙ no_row o none in
    sym (slotted number there) ∙ ap (option_map row_in) empty

cut_is : (plan : PlanFacts) (count number from to : ℕ) → from ≡ first_unit count number plan.units
    → to ≡ first_unit count (number + 1) plan.units
    → units_between from to plan.units ≡ dealt count number plan.units
cut_is plan count number from to a b = ap₂ (λ (m : ℕ) (n : ℕ). units_between m n plan.units) a b

pub returns-then-not-has_own_pieces-clause-refused : goal.returns-then-not-has_own_pieces-clause-refused
returns-then-not-has_own_pieces-clause-refused c = λ earlier slotted long.
    let plan = c.args.plan.now in
    let lot = c.in-Some.lot in
    let read = c.in_ok-lot.ensures.read lot (ap Ok c.in-Some.is) in
    let same : lot.lots ≡ c.args.count = c.if-lot-count.false in
    let cut = cut_is plan c.args.count lot.number _ _ (c.requires.firsts lot.number (omega (arith, read.1.number, same)))
    (c.requires.firsts (lot.number + 1) (omega (arith, read.1.number, same))) in
    inr (
      sym long,
      (
        facts_of lot,
        read.1,
        read.0,
        equal lot.plan c.args.digest.now c.if-ne.ensures,
        same,
        fresh_row c.args.slots.now earlier lot.number c.index-slots-number.result
            (omega (arith, read.1.number, same, c.requires.slots)) slotted c.index-slots-number.is c.if-is_some.ensures,
        λ pieces.
            let no = c.if-not-has_own_pieces.ensures.1
            (subst (λ (units : List PlanUnit). HasOwnPieces plan units lot.row) (sym cut)
            (of_own plan c.args.count lot same pieces)) in
            cc,
      ),
    )

pub returns-clause-next : goal.returns-clause-next
returns-clause-next c = λ earlier slotted.
    let plan = c.args.plan.now in
    let lot = c.in-Some.lot in
    let read = c.in_ok-lot.ensures.read lot (ap Ok c.in-Some.is) in
    let same : lot.lots ≡ c.args.count = c.if-lot-count.false in
    let cut = cut_is plan c.args.count lot.number _ _ (c.requires.firsts lot.number (omega (arith, read.1.number, same)))
    (c.requires.firsts (lot.number + 1) (omega (arith, read.1.number, same))) in
    record {
      planned = equal lot.plan c.args.digest.now c.if-ne.ensures;
      counted = same;
      fresh = fresh_row c.args.slots.now earlier lot.number c.index-slots-number.result
          (omega (arith, read.1.number, same, c.requires.slots)) slotted c.index-slots-number.is c.if-is_some.ensures;
      pieces = of_lot plan c.args.count lot same
          (subst (λ (units : List PlanUnit). HasOwnPieces plan units lot.row) cut
          (c.if-not-has_own_pieces.ensures.0 refl));
    }

-- where there is no memory for the lot
pub returns-in_err-lot : goal.returns-in_err-lot
returns-in_err-lot c =
    let r = c.from_residual.result in
    let is = c.from_residual.ensures.1 in record {
      is = stopped _ _ r is;
      next = λ earlier slotted. stopped _ _ r is;
      refused = λ earlier slotted long. stopped_by _ _ r is (inl refl);
    }

pub returns-in_default-clause-refused : goal.returns-in_default-clause-refused
returns-in_default-clause-refused c = λ earlier slotted long.
    inr (sym long, λ lot lawful is. absurd (rw c.in_default.is at (c.in_ok-lot.ensures.all lot lawful is)))

unequal : (xs ys : List ℕ) → true ≡ not (pointwise nat_eq xs ys) → xs ≢ ys
unequal xs ys differ same = let equal = (bytes_eq-Decides xs ys).1 same in cc

pub returns-then-ne-clause-refused : goal.returns-then-ne-clause-refused
returns-then-ne-clause-refused c = λ earlier slotted long.
    let lot = c.in-Some.lot in
    let read = c.in_ok-lot.ensures.read lot (ap Ok c.in-Some.is) in
    inr (sym long, (facts_of lot, read.1, read.0, unequal lot.plan c.args.digest.now c.if-ne.ensures))

pub returns-then-lot-count-clause-refused : goal.returns-then-lot-count-clause-refused
returns-then-lot-count-clause-refused c = λ earlier slotted long.
    let lot = c.in-Some.lot in
    let read = c.in_ok-lot.ensures.read lot (ap Ok c.in-Some.is) in
    inr (
      sym long,
      (facts_of lot, read.1, read.0, equal lot.plan c.args.digest.now c.if-ne.ensures, c.if-lot-count.true),
    )

row_there : (o : Option PieceRow) → true ≡ is_some o → is_some (option_map row_in o) ≡ true
row_there None there = cc
row_there (Some row) there = refl

taken_row : (slots : List (Option PieceRow)) (earlier : List LotFacts) (number : ℕ) (o : Option PieceRow)
    → number < length slots → AreSlots slots earlier → o ≡ get_or slots number o → true ≡ is_some o
    → is_some (row_at number earlier) ≡ true
taken_row slots earlier number o there slotted is taken =
    ap is_some (sym (slotted number there) ∙ ap (option_map row_in) (get_or_default slots number None o there ∙ sym is))
    ∙ row_there o taken

pub returns-then-is_some-clause-refused : goal.returns-then-is_some-clause-refused
returns-then-is_some-clause-refused c = λ earlier slotted long.
    let lot = c.in-Some.lot in
    let read = c.in_ok-lot.ensures.read lot (ap Ok c.in-Some.is) in
    let same : lot.lots ≡ c.args.count = c.if-lot-count.false in
    inr (
      sym long,
      (
        facts_of lot,
        read.1,
        read.0,
        equal lot.plan c.args.digest.now c.if-ne.ensures,
        same,
        taken_row c.args.slots.now earlier lot.number c.index-slots-number.result
            (omega (arith, read.1.number, same, c.requires.slots)) slotted c.index-slots-number.is c.if-is_some.ensures,
      ),
    )
