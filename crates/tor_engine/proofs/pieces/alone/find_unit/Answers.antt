-- all that is owed is the unit's
use Rattle.std.proofs.Common.{◌≡◌, [], ap, arith, length, map, subst, sym, take, ◌∙◌}
use Rattle.std.proofs.lemmas.List.{take_all}
use Rattle.tor_engine.specs.declared.pieces.piece_work.UnitPieces.{UnitPieces}
use Rattle.tor_engine.specs.steps.Pieces.{HashesPieces, hashes_in}
use Rattle.tor_engine.specs.steps.Unsummed.{OwePieces, owed_to_pieces, paid_pieces}
use Rattle.tor_sums.proofs.PaidSums.{owe_none}
use Rattle.tor_engine.proofs.PaidAlone.{owe_one}
use Rattle.tor_engine.proofs.Unsummed.{unit_fits, unit_settled}
use Rattle.tor_engine.proofs.pieces.alone.find_unit.Goals as goal

pub hash-requires-clause-stands : goal.hash-requires-clause-stands
hash-requires-clause-stands g c =
    let told = c.args.known.now.lengths.items in
    let none = owe_none (OwePieces (g.S.FileBytes.is_steady c.args.source.now) c.args.plan.now told) in
    ([], [], ([], c.requires.owing, none))

pub settle-requires-clause-owing : goal.settle-requires-clause-owing
settle-requires-clause-owing g c =
    let told = c.args.known.now.lengths.items in
    let none = owe_none (OwePieces (g.S.FileBytes.is_steady c.args.source.now) c.args.plan.now told) in
    let stands = c.in-Ok.ensures.stands [] [] ([], c.requires.owing, none) in
    (stands.0, stands.1)

pub take_own-requires : goal.take_own-requires
take_own-requires g c =
    let plan = c.args.plan.now in
    let is_steady = g.S.FileBytes.is_steady c.args.source.now in
    let told = c.args.known.now.lengths.items in
    let stands = c.in-Ok.ensures.stands [] []
    ([], c.requires.owing, owe_none (OwePieces is_steady plan told)) in
    let owes = owe_one (OwePieces is_steady plan told) c.args.unit.now c.in-Ok.found stands.0 stands.2 in
    let same = ap length
    (c.deref.ensures.value ∙ c.in_ok-owed.ensures.sums stands.0 stands.1) in
    omega (arith, same, unit_fits is_steady plan told c.args.unit.now c.in-Ok.found stands.0 owes)

pub returns-clause-hashed : goal.returns-clause-hashed
returns-clause-hashed g c =
    let plan = c.args.plan.now in
    let is_steady = g.S.FileBytes.is_steady c.args.source.now in
    let told = c.args.known.now.lengths.items in
    let unit = c.args.unit.now in
    let found = c.in-Ok.found in
    let stands = c.in-Ok.ensures.stands [] []
    ([], c.requires.owing, owe_none (OwePieces is_steady plan told)) in
    let owes = owe_one (OwePieces is_steady plan told) unit found stands.0 stands.2 in
    let same = c.deref.ensures.value ∙ c.in_ok-owed.ensures.sums stands.0 stands.1 in
    let own : take (owed_to_pieces found) c.deref.result.now ≡ stands.0 =
    ap (take (owed_to_pieces found)) same
    ∙ take_all (owed_to_pieces found) stands.0
    (omega (arith, unit_fits is_steady plan told unit found stands.0 owes)) in
    subst (λ (one : UnitPieces). HashesPieces is_steady plan told unit (map hashes_in one.pieces))
    (sym (c.take_own.ensures.paid ∙ ap (paid_pieces found) own))
    (unit_settled is_steady plan told unit found stands.0 owes)
