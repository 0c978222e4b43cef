-- Bytes are text or not.
use Rattle.tor_cli.proofs.ScanSegments.{bytes_in_line, text_in_line}
use Rattle.tor_cli.proofs.scan.lines.spelling_in_line.Goals as goal

pub returns-in-Ok : goal.returns-in-Ok
returns-in-Ok c = text_in_line c.args.bytes.now c.in-Ok.ensures.cases.1

pub returns-in-Err : goal.returns-in-Err
returns-in-Err c = bytes_in_line c.args.bytes.now c.in-Err.ensures.cases.0
