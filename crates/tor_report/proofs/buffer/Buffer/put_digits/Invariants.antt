-- The digits of the bytes so far are put.
use Rattle.std.proofs.Common.{take}
use Rattle.hex.specs.Hex.{encode_lower}
use Rattle.tor_report.specs.Put.{Puts}
use Rattle.tor_report.proofs.buffer.Buffer.put_digits.Given as goal

abbrev pub invariant-bytes : goal.invariant-bytes
invariant-bytes g l =
    Puts g.S.Sink.took (encode_lower (take l.byte-index l.bytes)) l.fn.out l.fn.self
    l.out l.self
