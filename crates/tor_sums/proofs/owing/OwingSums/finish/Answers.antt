-- the pieces go on, or were ended
use Rattle.std.proofs.Common.{[]}
use Rattle.tor_sums.proofs.OwedSums.{nothing_in, owed_ended, owed_last, something_in}
use Rattle.tor_sums.proofs.owing.OwingSums.finish.Goals as goal

pub returns-then-is_empty : goal.returns-then-is_empty
returns-then-is_empty c = λ plan owed is owes.
    let ended = c.args.self.ended in
    owed_last plan owed c.args.self owes c.finish.result.items
    (nothing_in ended.len ended.items ended.ok.0 c.if-is_empty.ensures)
    (c.finish.ensures plan.kind plan.piece_length [] owes.before owes.fresh.taken)

pub returns-else-is_empty : goal.returns-else-is_empty
returns-else-is_empty c = λ plan owed is owes.
    let ended = c.args.self.ended in
    owed_ended plan is owed c.args.self owes (something_in ended.len ended.items ended.ok.0 c.if-is_empty.ensures)
