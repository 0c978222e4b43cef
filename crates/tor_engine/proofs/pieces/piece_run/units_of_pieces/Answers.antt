-- unit by unit
use Rattle.std.proofs.Common.{◌≡◌, ◌∙◌, ◌++◌, ◌∷◌, [], ◌<◌, ◌+◌, List, ap, ap₂, arith, append-nil, get_or, length}
use Rattle.std.proofs.Common.{subst, sym, take}
use Rattle.std.specs.List.{AllByRecursion}
use Rattle.std.proofs.lemmas.Grind.{flat_map-append}
use Rattle.std.proofs.lemmas.List.{length-append, take_all, take_more}
use Rattle.std.proofs.lemmas.List.Elements.{All-from_recursion}
use Rattle.tor_plan.specs.Pieces.{pieces_of_unit}
use Rattle.tor_plan.specs.declared.units.PlanUnit.{PlanUnit}
use Rattle.tor_engine.specs.PieceHashes.{pieces_of_units}
use Rattle.tor_engine.specs.Rows.{units_between}
use Rattle.tor_engine.specs.steps.Pieces.{IsUnitToHash}
use Rattle.tor_sums.proofs.PartReads.{all_append}
use Rattle.tor_engine.proofs.PieceRuns.{between_more, between_none, pieces_are_alone}
use Rattle.tor_engine.proofs.PlanPieces.{units_to_hash}
use Rattle.tor_engine.proofs.pieces.piece_run.units_of_pieces.Goals as goal

pub units-init : goal.units-init
units-init c = record {
  ordered = c.requires;
  first = omega arith;
  after = omega arith;
  pieces = ap (pieces_of_units c.args.plan.now.piece_length) c.new-run.ensures.items
      ∙ sym (between_none c.args.from c.args.to);
  units = subst (λ (xs : List PlanUnit). AllByRecursion (IsUnitToHash c.args.plan.now) xs)
      (sym c.new-run.ensures.items) tt;
}

pub pieces_in-requires-clause-unit : goal.pieces_in-requires-clause-unit
pieces_in-requires-clause-unit c =
    let plan = c.args.plan.now in
    let i = c.units.unit-index in
    let value = c.units-unit-items.ensures.value in
    let less = subst (λ (xs : List PlanUnit). i < length xs) value c.units-test.true in
    subst (λ (unit : PlanUnit). IsUnitToHash plan unit)
    (sym (c.unit-item.is ∙ ap (λ (xs : List PlanUnit). get_or xs i c.unit-item.result) value))
    (units_to_hash plan c.units-unit-items.ensures.planned i c.unit-item.result less)

pub wanted_units-requires-clause-ordered : goal.wanted_units-requires-clause-ordered
wanted_units-requires-clause-ordered c = c.units.invariant.ordered

pub wanted_units-requires-clause-unit : goal.wanted_units-requires-clause-unit
wanted_units-requires-clause-unit c =
    let plan = c.args.plan.now in
    let i = c.units.unit-index in
    let value = c.units-unit-items.ensures.value in
    let less = subst (λ (xs : List PlanUnit). i < length xs) value c.units-test.true in
    subst (λ (unit : PlanUnit). IsUnitToHash plan unit)
    (sym (c.unit-item.is ∙ ap (λ (xs : List PlanUnit). get_or xs i c.unit-item.result) value))
    (units_to_hash plan c.units-unit-items.ensures.planned i c.unit-item.result less)

pub wanted_units-requires-clause-alone : goal.wanted_units-requires-clause-alone
wanted_units-requires-clause-alone c =
    let plan = c.args.plan.now in
    let f = pieces_of_unit plan.piece_length in
    let i = c.units.unit-index in
    let value = c.units-unit-items.ensures.value in
    let less = subst (λ (xs : List PlanUnit). i < length xs) value c.units-test.true in
    let unit = c.unit-item.is ∙ ap (λ (xs : List PlanUnit). get_or xs i c.unit-item.result) value in
    subst (λ (xs : List PlanUnit). AllByRecursion (λ piece. f piece ≡ piece ∷ []) xs)
    (sym (c.in_ok-pieces.ensures ∙ ap f unit))
    (All-from_recursion (λ unit. AllByRecursion (λ piece. f piece ≡ piece ∷ []) (f unit)) plan.units
    (pieces_are_alone plan c.units-unit-items.ensures.planned) i c.unit-item.result less)

pub units-preserved : goal.units-preserved
units-preserved c =
    let plan = c.args.plan.now in
    let p = plan.piece_length in
    let f = pieces_of_unit p in
    let i = c.units.unit-index in
    let items = c.units-unit-items.result.now in
    let unit = c.unit-item.result in
    let before = pieces_of_units p (take i items) in
    let seen : pieces_of_units p (take (i + 1) items) ≡ before ++ f unit =
    ap (pieces_of_units p) (take_more items i unit c.units-test.true
    ∙ ap (λ u. take i items ++ u ∷ []) (sym c.unit-item.is))
    ∙ flat_map-append f (take i items) (unit ∷ [])
    ∙ ap (λ xs. before ++ xs) (append-nil (f unit)) in
    let pieces = c.in_ok-pieces.ensures in
    let count : c.len-count.result ≡ length (f unit) =
    c.len-count.ensures ∙ c.in_ok-pieces.pieces.ok.0 ∙ ap length pieces in
    let long = ap length seen ∙ length-append before (f unit) in
    let held = c.units.invariant in
    let own = c.in_ok-own.own.items in
    let joined = c.in_ok-append.ensures.joined in
    record {
      ordered = omega (arith, held.ordered, c.saturating_sub-first.ensures, c.saturating_sub-after.ensures);
      first = omega (arith, held.first, c.saturating_sub-first.ensures, count, long);
      after = omega (arith, held.after, c.saturating_sub-after.ensures, count, long);
      pieces =
          ap (pieces_of_units p) joined
          ∙ flat_map-append f c.units.run.items own
          ∙ ap₂ (λ (xs ys : List PlanUnit). xs ++ ys) held.pieces
          (c.in_ok-own.ensures.pieces
          ∙ ap (λ (xs : List PlanUnit). units_between c.units.first c.units.after xs) pieces
          ∙ ap₂ (λ a b. units_between a b (f unit)) held.first held.after)
          ∙ sym (ap (λ (xs : List PlanUnit). units_between c.args.from c.args.to xs) seen
          ∙ between_more c.args.from c.args.to before (f unit) c.requires);
      units = subst (λ (xs : List PlanUnit). AllByRecursion (IsUnitToHash plan) xs) (sym joined)
          (all_append (IsUnitToHash plan) c.units.run.items own held.units c.in_ok-own.ensures.units);
    }

pub returns-clause-pieces : goal.returns-clause-pieces
returns-clause-pieces c =
    let all = take_all c.units.unit-index c.units-unit-items.result.now c.units-test.false
    ∙ c.units-unit-items.ensures.value in
    let p = c.args.plan.now.piece_length in
    c.units.invariant.pieces
    ∙ ap (λ (units : List PlanUnit). units_between c.args.from c.args.to (pieces_of_units p units)) all

pub returns-clause-units : goal.returns-clause-units
returns-clause-units c = c.units.invariant.units
