-- none of the bytes so far fails
use Rattle.std.proofs.Common.{◌≡◌, ◌-◌, ◌≤◌, length, None}
use Rattle.std.specs.List.{range_with_len}
use Rattle.tor_source.specs.Source.{SourceFacts}
use Rattle.tor_sums.specs.Fault.{byte_fault, first_of}
use Rattle.tor_sums.specs.steps.Reads.{HasPart}
use Rattle.tor_engine.proofs.pieces.probing.probe_part.Given as goal

abbrev pub invariant-reads : goal.invariant-reads
invariant-reads g l = record {
  within : l.done ≤ l.part.length;
  room : length l.buffer ≡ length l.fn.buffer;
  fault : (facts : SourceFacts g.row.S-Fault.Denot) → g.S.FileBytes.is_steady l.source facts → HasPart facts l.part →
      first_of (byte_fault facts l.part.file) (range_with_len l.part.start l.done) ≡ None;
}

abbrev pub decreases-reads : goal.decreases-reads
decreases-reads g l = l.part.length - l.done
