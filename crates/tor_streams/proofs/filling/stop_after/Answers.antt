-- the bytes that came before, and those of the last read
use Rattle.std.proofs.Common.{arith, length-append, ◌∙◌}
use Rattle.tor_streams.proofs.filling.stop_after.Goals as goal

pub returns-in-Read : goal.returns-in-Read
returns-in-Read c = λ left earlier bytes counted ends.
    let is = rw c.in-Read.is at ends in
    let long = length-append earlier bytes in
    (long ∙ omega (arith, counted, is.0), omega (arith, long, counted, is.1))

pub returns-in-TooLong : goal.returns-in-TooLong
returns-in-TooLong c = λ left earlier bytes counted ends.
    omega (arith, length-append earlier bytes, counted, rw c.in-TooLong.is at ends)
