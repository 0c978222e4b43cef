-- What stands for the bytes so far is put.
use Rattle.std.proofs.Common.{take, length, ◌-◌, ◌≤◌}
use Rattle.tor_report.specs.Put.{Puts}
use Rattle.tor_report.specs.Spelled.{spelled}
use Rattle.tor_report.proofs.buffer.Buffer.put_spelled.Given as goal

abbrev pub invariant-runs : goal.invariant-runs
invariant-runs g l = record {
  inside : l.done ≤ length l.text;
  put : Puts g.S.Sink.took (spelled l.spelling (take l.done l.text)) l.fn.out l.fn.self
      l.out l.self;
}

abbrev pub decreases-runs : goal.decreases-runs
decreases-runs g l = length l.text - l.done
