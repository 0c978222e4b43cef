-- the next hash is of the first unit that is not taken whole
use Rattle.std.proofs.Common.{◌+◌, ◌-◌, ◌∷◌, ◌∙◌, List, ap, ap₂, arith, drop, sym}
use Rattle.std.specs.List.{flat_map}
use Rattle.tor_engine.specs.declared.pieces.piece_hashes.HashesLeft.TheInside.{Inside}
use Rattle.tor_engine.specs.declared.pieces.piece_work.UnitPieces.{UnitPieces}
use Rattle.tor_engine.specs.steps.UnitHashes.{hashes_of_unit}
use Rattle.tor_engine.proofs.FoundRows.{next_of_unit, none_left, past_unit}
use Rattle.tor_engine.proofs.pieces.piece_hashes.HashesLeft.next.Goals as goal

pub loop-unit-preserved : goal.loop-unit-preserved
loop-unit-preserved c =
    let taken = c.loop-unit.taken in
    let unit = c.in-Some.unit.now in
    let later = c.in-Some.later.now in
    record {
      left = ap (λ k. drop (taken - k) (flat_map hashes_of_unit later)) c.count-taken.ensures
          ∙ sym (past_unit unit later taken (omega (arith, c.if-taken-count.false, c.count.ensures)))
          ∙ ap (λ (units : List UnitPieces). drop taken (flat_map hashes_of_unit units)) (sym c.in-Some.ensures.cases.0)
          ∙ c.loop-unit.invariant.left;
      same = c.loop-unit.invariant.same;
    }

pub returns-then-taken-count : goal.returns-then-taken-count
returns-then-taken-count c =
    let taken = c.loop-unit.taken in
    let unit = c.in-Some.unit.now in
    let later = c.in-Some.later.now in
    let left = λ (k : _) (units : List UnitPieces). drop k (flat_map hashes_of_unit units) in
    sym c.self.view_is ∙ sym c.loop-unit.invariant.left
    ∙ ap (left taken) c.in-Some.ensures.cases.0
    ∙ next_of_unit unit later taken (omega (arith, c.if-taken-count.true, c.count.ensures))
    ∙ ap₂ (λ hash hashes. hash ∷ hashes) (sym c.hashes.ensures) (ap (left (taken + 1)) (sym c.in-Some.ensures.cases.0))

pub returns : goal.returns
returns c =
    let none = sym c.loop-unit.invariant.left
    ∙ none_left c.loop-unit.units.now c.loop-unit.taken c.in_default.ensures.cases in (
      sym c.self.view_is ∙ none,
      ap (λ (inside : Inside). drop inside.taken (flat_map hashes_of_unit inside.units.now)) c.loop-unit.invariant.same
          ∙ none,
    )
