-- nothing waits
use Rattle.std.proofs.Common.{arith}
use Rattle.tor_sums.proofs.Waiting.{none_held, whole_sums}
use Rattle.tor_sums.proofs.worker.WorkerSums.end_pieces.Goals as goal

pub returns-clause-sums : goal.returns-clause-sums
returns-clause-sums c = λ kind p bytes unit taken.
    let mid = c.hash.new.self in
    let kept = c.in_ok-hash.ensures.keeps kind p bytes unit taken in
    whole_sums kind p bytes unit mid kept
    (none_held mid.room (omega (arith, c.in_ok-hash.ensures.count, c.count_held.ensures)))
    c.end_pieces.result.items (c.end_pieces.ensures.sums kind p kept.fed_bytes kept.fed_unit kept.fed)
