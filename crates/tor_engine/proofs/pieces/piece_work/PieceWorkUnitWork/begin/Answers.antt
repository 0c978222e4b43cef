-- no unit owes anything
use Rattle.std.proofs.Common.{[]}
use Rattle.tor_engine.specs.steps.Unsummed.{OwePieces}
use Rattle.tor_sums.proofs.PaidSums.{if_ok_more, owe_none}
use Rattle.tor_engine.proofs.pieces.piece_work.PieceWorkUnitWork.begin.Goals as goal

pub returns : goal.returns
returns g c =
    let work = c.args.self.now in
    if_ok_more c.new.result _ _
    (λ worker owes. (
      [],
      owes,
      owe_none (OwePieces (g.S.FileBytes.is_steady work.source.now) work.plan.now work.known.now.lengths.items),
    )) c.new.ensures.owes
