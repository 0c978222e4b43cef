-- the bytes so far were taken, and none of them fails
use Rattle.std.proofs.Common.{◌≡◌, ◌+◌, ◌-◌, ◌≤◌, length, None}
use Rattle.std.specs.List.{range_with_len}
use Rattle.tor_source.specs.Source.{SourceFacts, bytes_from}
use Rattle.tor_sums.specs.Fault.{PartFailsWithin, byte_fault, first_of, wanted_byte_fault}
use Rattle.tor_sums.specs.steps.Reads.{TakesPart}
use Rattle.tor_sums.proofs.reading.read_part.Given as goal

abbrev pub invariant-reads : goal.invariant-reads
invariant-reads g l = record {
  within : l.done ≤ l.part.length;
  begun : l.sums.begun ≡ l.initial.sums.begun + l.done;
  taken : TakesPart (g.S.FileBytes.is_steady l.source) l.part l.done l.initial.sums l.sums;
  fault : (facts : SourceFacts g.row.S-Fault.Denot) → g.S.FileBytes.is_steady l.source facts →
      l.part.length ≤ length (bytes_from facts l.part.file l.part.start) →
      first_of (byte_fault facts l.part.file) (range_with_len l.part.start l.done) ≡ None;
  wanted : (facts : SourceFacts g.row.S-Fault.Denot) → g.S.FileBytes.is_steady l.source facts →
      PartFailsWithin facts l.part →
      first_of (wanted_byte_fault facts l.part.file) (range_with_len l.part.start l.done) ≡ None;
}

abbrev pub decreases-reads : goal.decreases-reads
decreases-reads g l = l.part.length - l.done
