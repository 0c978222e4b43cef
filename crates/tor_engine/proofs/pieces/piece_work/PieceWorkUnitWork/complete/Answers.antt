-- each piece gets what is owed to it
use Rattle.std.proofs.Common.{◌∙◌, List, ap, arith, length, map, refl, replicate, subst, sum_by, sym}
use Rattle.tor_sums.specs.steps.Each.{SumUpEach}
use Rattle.tor_sums.specs.steps.Owing.{paid_each}
use Rattle.tor_engine.specs.declared.pieces.piece_work.UnitPieces.{UnitPieces}
use Rattle.tor_engine.specs.steps.Pieces.{HashesPieces, hashes_in}
use Rattle.tor_engine.specs.steps.Taken.{pair_in}
use Rattle.tor_engine.specs.steps.Unsummed.{OwePieces, owed_to_pieces, paid_pieces}
use Rattle.tor_sums.proofs.PaidSums.{can_pay, paid_alike, paid_up}
use Rattle.tor_engine.proofs.Unsummed.{paid_length, unit_fits, unit_settled}
use Rattle.tor_sums.proofs.WholeSlice.{written_whole}
use Rattle.tor_engine.proofs.pieces.piece_work.PieceWorkUnitWork.complete.Goals as goal

pub pay-requires : goal.pay-requires
pay-requires g c =
    let work = c.args.self.now in
    let stands = c.requires.stands.1 in
    let is_steady = g.S.FileBytes.is_steady work.source.now in
    let told = work.known.now.lengths.items in
    let same = ap length
    (c.deref.ensures.value ∙ c.finish-owed.ensures work.plan.now stands.0 c.requires.begin.0 stands.1) in
    let items = ap (sum_by owed_to_pieces) c.as_mut_slice.ensures.value in
    let total = can_pay owed_to_pieces paid_pieces (OwePieces is_steady work.plan.now told)
    (unit_fits is_steady work.plan.now told) c.requires.stands.0 c.args.sums.now.items stands.0 stands.2 in
    omega (arith, same, items, total)

pub returns-clause-summed : goal.returns-clause-summed
returns-clause-summed g c = λ units stands.
    let work = c.args.self.now in
    let is_steady = g.S.FileBytes.is_steady work.source.now in
    let told = work.known.now.lengths.items in
    let old = c.args.sums.now in
    let same = c.deref.ensures.value ∙ c.finish-owed.ensures work.plan.now stands.0 c.requires.begin.0 stands.1 in
    let paid = c.pay.ensures.paid
    ∙ ap (λ xs. paid_each owed_to_pieces paid_pieces xs c.deref.result.now) c.as_mut_slice.ensures.value
    ∙ ap (paid_each owed_to_pieces paid_pieces old.items) same in
    let long = ap length paid ∙ paid_length owed_to_pieces paid_pieces old.items stands.0 in
    subst (λ (sums : List UnitPieces). SumUpEach (λ unit one. HashesPieces is_steady work.plan.now told unit
    (map hashes_in one.pieces)) units sums)
    (sym (written_whole old.items c.pay.new.items old.len long old.ok.0 ∙ paid))
    (paid_up owed_to_pieces paid_pieces (OwePieces is_steady work.plan.now told) (unit_fits is_steady work.plan.now told)
    _ (unit_settled is_steady work.plan.now told) units old.items stands.0 stands.2)

pub returns-clause-same : goal.returns-clause-same
returns-clause-same g c =
    let pair = pair_in (λ (sums : UnitPieces). sums.unit) (λ sums. replicate 32 0) in
    let old = c.args.sums.now in
    let paid = c.pay.ensures.paid
    ∙ ap (λ xs. paid_each owed_to_pieces paid_pieces xs c.deref.result.now) c.as_mut_slice.ensures.value in
    let long = ap length paid ∙ paid_length owed_to_pieces paid_pieces old.items c.deref.result.now in
    ap (map pair) (written_whole old.items c.pay.new.items old.len long old.ok.0 ∙ paid)
    ∙ paid_alike owed_to_pieces paid_pieces pair (λ one own. refl) old.items c.deref.result.now
