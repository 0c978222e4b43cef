-- The backslash before the digits is escaped, and nothing else.
use Rattle.tor_report.proofs.HexDigits.{written_in_json}
use Rattle.tor_report.proofs.buffer.Buffer.put_code_in_json.Goals as goal

pub returns-clause-put : goal.returns-clause-put
returns-clause-put g c =
    rw (written_in_json c.args.byte c.ranges.byte.fits)
    (rw (c.digit.ensures.digit, c.digit-2.ensures.digit) at c.put.ensures.put)

pub returns-clause-stopped : goal.returns-clause-stopped
returns-clause-stopped g c =
    rw (written_in_json c.args.byte c.ranges.byte.fits)
    (rw (c.digit.ensures.digit, c.digit-2.ensures.digit) at c.put.ensures.stopped)
