-- The names so far are put.
use Rattle.std.proofs.Common.{suc, take}
use Rattle.std.specs.List.{join_by}
use Rattle.tor_report.specs.Put.{Puts}
use Rattle.tor_report.specs.Spelled.{spelled}
use Rattle.tor_report.proofs.buffer.Buffer.put_joined.Given as goal

abbrev pub invariant-names : goal.invariant-names
invariant-names g l =
    Puts g.S.Sink.took (join_by (spelled l.spelling) l.between (take (suc l.name-index) l.names)) l.fn.out
    l.fn.self l.out l.self
