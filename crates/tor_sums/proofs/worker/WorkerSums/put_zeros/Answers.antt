-- zeros stand behind what waited
use Rattle.std.proofs.Common.{refl}
use Rattle.tor_v1.specs.Piece.{zeros}
use Rattle.tor_sums.proofs.Waiting.{takes_zeros}
use Rattle.tor_sums.proofs.worker.WorkerSums.put_zeros.Goals as goal

pub returns-clause-taken : goal.returns-clause-taken
returns-clause-taken c = λ kind p bytes unit taken.
    takes_zeros kind p c.make_room.new.self _ (zeros c.put_zeros-count.result) bytes unit
    (c.in_ok-make_room.ensures.treed c.requires.treed) c.count_held-self.ensures refl c.put_zeros-count.ensures.held
    (c.in_ok-make_room.ensures.keeps kind p bytes unit taken)
