-- The names of the path, joined.
use Rattle.std.proofs.Common.{sym}
use Rattle.tor_report.proofs.PathTexts.{path_spelled}
use Rattle.tor_report.proofs.buffer.Buffer.put_path.Goals as goal

pub returns-clause-put : goal.returns-clause-put
returns-clause-put g c =
    rw (sym (path_spelled c.args.spelling c.args.path.now)) (rw c.names.ensures.value at c.put_joined.ensures.put)

pub returns-clause-stopped : goal.returns-clause-stopped
returns-clause-stopped g c =
    rw (sym (path_spelled c.args.spelling c.args.path.now)) (rw c.names.ensures.value at c.put_joined.ensures.stopped)
