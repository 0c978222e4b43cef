-- one piece after the other
use Rattle.std.proofs.Common.{◌++◌, List, [], ◌∷◌, ap, map, refl, subst, sym, take, ◌∙◌}
use Rattle.std.proofs.lemmas.List.{map-append, take_all, take_more}
use Rattle.std.specs.List.{All}
use Rattle.tor_plan.specs.Pieces.{pieces_of_unit}
use Rattle.tor_plan.specs.declared.units.PlanUnit.{PlanUnit}
use Rattle.tor_sums.specs.steps.Given.{IsGivenRead, lengths_of_sizes}
use Rattle.tor_engine.specs.declared.pieces.readable_unit.FaultyUnit.{FaultyUnit}
use Rattle.tor_engine.specs.steps.Pieces.{IsPiece, hashes_in}
use Rattle.tor_engine.proofs.FoundReadable.{finds_as, finds_both, finds_none}
use Rattle.tor_engine.proofs.Stopped.{stopped, stopped_by, stopped_on}
use Rattle.tor_engine.proofs.pieces.readable_work.find_each.Goals as goal

pub pieces-init : goal.pieces-init
pieces-init g c =
    let is_steady = g.S.FileBytes.is_steady c.args.source.now in
    let told = c.args.known.now.lengths.items in
    let may_be = IsGivenRead (g.S.FileBytes.answers c.args.source.now) (lengths_of_sizes told) in
    record {
      owing = c.requires.owing;
      found = finds_as is_steady may_be c.args.plan.now told refl
          (sym (ap (map hashes_in) c.in_ok-found.ensures.items)) (sym c.new-faults.ensures.items)
          (finds_none is_steady may_be c.args.plan.now told);
    }

pub find_or_faults-requires-clause-piece : goal.find_or_faults-requires-clause-piece
find_or_faults-requires-clause-piece g c =
    let plan = c.args.plan.now in
    let all = c.as_slice-piece-items.ensures.value ∙ c.in_ok-pieces.ensures
    ∙ ap (λ p. pieces_of_unit p c.args.unit.now) c.piece_length.ensures in
    let are = subst (λ (pieces : List PlanUnit). All (IsPiece plan) pieces) (sym all) c.requires.unit.pieces in
    subst (λ (piece : PlanUnit). IsPiece plan piece) (sym c.piece-item.is)
    (are c.pieces.piece-index c.piece-item.result c.pieces-test.true)

pub returns-in-Err-clause-refused : goal.returns-in-Err-clause-refused
returns-in-Err-clause-refused g c = c.in-Err.ensures.refused

pub returns-in-Err-clause-no_read_fault : goal.returns-in-Err-clause-no_read_fault
returns-in-Err-clause-no_read_fault g c = c.in-Err.ensures.no_read_fault

pub returns-in-Err-clause-gave : goal.returns-in-Err-clause-gave
returns-in-Err-clause-gave g c = c.in-Err.ensures.gave

pub pieces-preserved : goal.pieces-preserved
pieces-preserved g c =
    let is_steady = g.S.FileBytes.is_steady c.args.source.now in
    let told = c.args.known.now.lengths.items in
    let may_be = IsGivenRead (g.S.FileBytes.answers c.args.source.now) (lengths_of_sizes told) in
    let plan = c.args.plan.now in
    let pieces = c.as_slice-piece-items.result.now in
    let i = c.pieces.piece-index in
    let piece = c.piece-item.result in
    let one = c.in-Ok.one in
    record {
      owing = c.in-Ok.ensures.owing;
      found = finds_as is_steady may_be plan told
          (ap (λ p. take i pieces ++ p ∷ []) c.piece-item.is ∙ sym (take_more pieces i _ c.pieces-test.true))
          (sym (ap (map hashes_in) c.in_ok-push.ensures.items
          ∙ map-append hashes_in c.pieces.found.items (one.0 ∷ [])))
          (sym c.in_ok-append.ensures.joined)
          (finds_both is_steady may_be plan told (take i pieces) (piece ∷ []) (map hashes_in c.pieces.found.items)
          (hashes_in one.0 ∷ []) c.pieces.faults.items one.1.items c.pieces.invariant.found c.in-Ok.ensures.found);
    }

pub returns-clause-found : goal.returns-clause-found
returns-clause-found g c =
    let is_steady = g.S.FileBytes.is_steady c.args.source.now in
    let told = c.args.known.now.lengths.items in
    let may_be = IsGivenRead (g.S.FileBytes.answers c.args.source.now) (lengths_of_sizes told) in
    let items = c.as_slice-piece-items.result.now in
    let made = c.in_ok-unit.ensures.ok in
    finds_as is_steady may_be c.args.plan.now told
    (take_all c.pieces.piece-index items c.pieces-test.false
    ∙ c.as_slice-piece-items.ensures.value ∙ c.in_ok-pieces.ensures
    ∙ ap (λ p. pieces_of_unit p c.args.unit.now) c.piece_length.ensures)
    (sym (ap (λ (one : FaultyUnit _). map hashes_in one.found.pieces) made ∙ ap (map hashes_in) c.in_ok-row.ensures))
    (sym (ap (λ (one : FaultyUnit _). one.faults.items) made)) c.pieces.invariant.found

pub returns-in_err-pieces : goal.returns-in_err-pieces
returns-in_err-pieces g c =
    let r = c.from_residual.result in
    let is = c.from_residual.ensures.1 in record {
      owing = stopped_on _ _ r is;
      number = stopped _ _ r is;
      found = stopped _ _ r is;
      refused = λ facts steady are. stopped_by _ _ r is refl;
      no_read_fault = stopped_by _ _ r is tt;
      gave = stopped_by _ _ r is tt;
    }

pub returns-in_err-found : goal.returns-in_err-found
returns-in_err-found g c =
    let r = c.from_residual-in_err-found.result in
    let is = c.from_residual-in_err-found.ensures.1 in record {
      owing = stopped_on _ _ r is;
      number = stopped _ _ r is;
      found = stopped _ _ r is;
      refused = λ facts steady are. stopped_by _ _ r is refl;
      no_read_fault = stopped_by _ _ r is tt;
      gave = stopped_by _ _ r is tt;
    }

pub returns-in_err-push : goal.returns-in_err-push
returns-in_err-push g c =
    let r = c.from_residual-in_err-push.result in
    let is = c.from_residual-in_err-push.ensures.1 in record {
      owing = stopped_on _ _ r is;
      number = stopped _ _ r is;
      found = stopped _ _ r is;
      refused = λ facts steady are. stopped_by _ _ r is refl;
      no_read_fault = stopped_by _ _ r is tt;
      gave = stopped_by _ _ r is tt;
    }

pub returns-in_err-append : goal.returns-in_err-append
returns-in_err-append g c =
    let r = c.from_residual-in_err-append.result in
    let is = c.from_residual-in_err-append.ensures.1 in record {
      owing = stopped_on _ _ r is;
      number = stopped _ _ r is;
      found = stopped _ _ r is;
      refused = λ facts steady are. stopped_by _ _ r is refl;
      no_read_fault = stopped_by _ _ r is tt;
      gave = stopped_by _ _ r is tt;
    }

pub returns-in_err-row : goal.returns-in_err-row
returns-in_err-row g c =
    let r = c.from_residual-in_err-row.result in
    let is = c.from_residual-in_err-row.ensures.1 in record {
      owing = stopped_on _ _ r is;
      number = stopped _ _ r is;
      found = stopped _ _ r is;
      refused = λ facts steady are. stopped_by _ _ r is refl;
      no_read_fault = stopped_by _ _ r is tt;
      gave = stopped_by _ _ r is tt;
    }

pub returns-in_err-unit : goal.returns-in_err-unit
returns-in_err-unit g c =
    let r = c.from_residual-in_err-unit.result in
    let is = c.from_residual-in_err-unit.ensures.1 in record {
      owing = stopped_on _ _ r is;
      number = stopped _ _ r is;
      found = stopped _ _ r is;
      refused = λ facts steady are. stopped_by _ _ r is refl;
      no_read_fault = stopped_by _ _ r is tt;
      gave = stopped_by _ _ r is tt;
    }
