-- what was read stands behind what waited
use Rattle.std.proofs.Common.{inr, refl, arith}
use Rattle.tor_sums.proofs.Waiting.{takes}
use Rattle.tor_sums.proofs.WantedBytes.{read_failed, read_free}
use Rattle.tor_sums.proofs.worker.WorkerSums.read.Goals as goal

pub returns-in-Ok-clause-read : goal.returns-in-Ok-clause-read
returns-in-Ok-clause-read g c =
    let read = c.in-Ok.ensures.read in
    record {
      bytes = read.bytes;
      counted = read.counted;
      steady = read.steady;
      there = read.there;
      taken = λ kind p before unit taken.
          takes kind p c.make_room.new.self _ read.bytes before unit refl refl read.held
          (c.in_ok-make_room.ensures.keeps kind p before unit taken);
    }

pub returns-in-Ok-clause-wanted : goal.returns-in-Ok-clause-wanted
returns-in-Ok-clause-wanted g c = λ facts steady within.
    let there = c.in-Ok.ensures.read.there facts steady in
    read_free facts c.args.file c.args.start c.in-Ok.count there
    (c.in-Ok.ensures.fault facts steady (omega (arith, there, c.in-Ok.ensures.some.0)))

pub returns-in-Err-clause-wanted : goal.returns-in-Err-clause-wanted
returns-in-Err-clause-wanted g c = λ facts steady within.
    inr (read_failed facts c.args.file c.args.start c.in-Err.error within (c.in-Err.ensures.fault facts steady)
    (c.in-Err.ensures.ends facts steady))
