use Rattle.std.proofs.Common.{◌≡◌, ◌<◌, ◌≤◌, ℕ, None, Some, take}
use Rattle.tor_source.specs.Sources.{first_fault}
use Rattle.tor_source.proofs.failing.next_fault.Given as goal

abbrev pub invariant-faults : goal.invariant-faults
invariant-faults l = record {
  after : l.start < l.next;
  within : l.next ≤ l.end;
  none_between : (k : ℕ) → l.start < k → k < l.next
      → first_fault (take l.fault-index l.faults) l.file (Some k) ≡ None;
}
