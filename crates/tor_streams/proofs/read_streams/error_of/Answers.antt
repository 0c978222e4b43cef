-- the bytes that the reader gave
use Rattle.tor_streams.proofs.read_streams.error_of.Goals as goal

pub returns-in-Read : goal.returns-in-Read
returns-in-Read c = λ known bytes up_to ends. (bytes, up_to, (rw c.in-Read.is at ends).0)

pub returns-in-TooLong : goal.returns-in-TooLong
returns-in-TooLong c = λ known bytes up_to ends. (bytes, up_to, rw c.in-TooLong.is at ends)
