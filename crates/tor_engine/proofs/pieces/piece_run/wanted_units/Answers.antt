-- the pieces that are wanted, each a unit by itself
use Rattle.std.proofs.Common.{◌≡◌, ◌∙◌, ◌∷◌, [], List, ap, drop, length, min, subst, sym, arith}
use Rattle.std.proofs.lemmas.Grind.{common_steps}
use Rattle.std.specs.List.{AllByRecursion}
use Rattle.std.proofs.lemmas.List.Elements.{recursion_from_All}
use Rattle.tor_plan.specs.Pieces.{pieces_of_unit}
use Rattle.tor_plan.specs.declared.units.PlanUnit.{PlanUnit}
use Rattle.tor_engine.specs.PieceHashes.{pieces_of_units}
use Rattle.tor_engine.specs.Rows.{units_between}
use Rattle.tor_engine.specs.steps.Pieces.{IsPiece, IsUnitToHash}
use Rattle.tor_engine.proofs.PieceRuns.{alone_joined, between_cut, between_each, pieces_to_hash}
use Rattle.tor_engine.proofs.pieces.piece_run.wanted_units.Goals as goal

pub returns-clause-pieces : goal.returns-clause-pieces
returns-clause-pieces c =
    let f = pieces_of_unit c.args.plan.now.piece_length in
    let pieces = c.args.pieces.items in
    let own = units_between c.args.first c.args.after pieces in
    let kept = c.truncate.ensures.items in
    let own_is : c.in_ok-own.own.items ≡ own =
    c.in_ok-own.ensures.tail ∙ ap (drop c.min-skipped.result) kept
    ∙ between_cut c.args.first c.args.after c.min-skipped.result pieces c.requires.ordered
    (c.min-skipped.ensures
    ∙ ap (min c.args.first) (c.len-2.ensures ∙ c.truncate.new.self.ok.0 ∙ ap length kept)) in
    ap (pieces_of_units c.args.plan.now.piece_length) own_is
    ∙ alone_joined f own
    (between_each (λ piece. f piece ≡ piece ∷ []) c.args.first c.args.after pieces c.requires.alone)

pub returns-clause-units : goal.returns-clause-units
returns-clause-units c =
    let plan = c.args.plan.now in
    let pieces = c.args.pieces.items in
    let kept = c.truncate.ensures.items in
    let own_is : c.in_ok-own.own.items ≡ units_between c.args.first c.args.after pieces =
    c.in_ok-own.ensures.tail ∙ ap (drop c.min-skipped.result) kept
    ∙ between_cut c.args.first c.args.after c.min-skipped.result pieces c.requires.ordered
    (c.min-skipped.ensures
    ∙ ap (min c.args.first) (c.len-2.ensures ∙ c.truncate.new.self.ok.0 ∙ ap length kept)) in
    let are = subst (λ (xs : List PlanUnit). AllByRecursion (IsPiece plan) xs) (sym c.requires.pieces)
    (recursion_from_All (IsPiece plan) (pieces_of_unit plan.piece_length c.args.unit.now) c.requires.unit.pieces) in
    subst (λ (xs : List PlanUnit). AllByRecursion (IsUnitToHash plan) xs) (sym own_is)
    (between_each (IsUnitToHash plan) c.args.first c.args.after pieces
    (pieces_to_hash plan pieces are c.requires.alone))

pub returns-then-after-len-clause-pieces : goal.returns-then-after-len-clause-pieces
returns-then-after-len-clause-pieces c = grind (arith, common_steps)
