-- the bytes stand behind what waited
use Rattle.std.proofs.Common.{arith, refl, take}
use Rattle.tor_sums.proofs.Waiting.{takes_zeros}
use Rattle.tor_sums.proofs.worker.WorkerSums.put.Goals as goal

pub returns-clause-taken : goal.returns-clause-taken
returns-clause-taken c = λ kind p before unit taken.
    let all = c.in_ok-make_room.ensures.treed c.requires.treed in
    takes_zeros kind p c.make_room.new.self _ (take c.put-count.result c.args.bytes.now) before unit
    all (omega (arith, all, c.put-count.ensures.count)) refl c.put-count.ensures.held
    (c.in_ok-make_room.ensures.keeps kind p before unit taken)
