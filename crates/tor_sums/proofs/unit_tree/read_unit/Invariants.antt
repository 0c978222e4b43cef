-- the parts so far, of which no byte fails
use Rattle.std.proofs.Common.{◌≡◌, ◌≤◌, ◌+◌, ◌++◌, ℕ, List, None, sum_by, take}
use Rattle.std.specs.List.{AllByRecursion}
use Rattle.tor_source.specs.Source.{SourceFacts}
use Rattle.tor_v1.specs.Piece.{zeros}
use Rattle.tor_sums.specs.Fault.{PartFailsWithin, first_of, part_fault, wanted_part_fault}
use Rattle.tor_sums.specs.steps.Reads.{HasParts, ReadsParts}
use Rattle.tor_sums.specs.steps.Worker.{IsFresh}
use Rattle.tor_sums.proofs.unit_tree.read_unit.Given as goal

abbrev pub invariant-each : goal.invariant-each
invariant-each g l = record {
  begun : l.sums.begun ≤ sum_by (λ part. part.length + part.zeros) (take l.part-index l.parts);
  read : (before : List ℕ) → IsFresh l.plan before l.fn.sums →
      ReadsParts (g.S.FileBytes.is_steady l.source) l.plan (before ++ zeros l.unit.zeros) (take l.part-index l.parts)
      l.zeros l.sums;
  faultless : (facts : SourceFacts g.row.S-Fault.Denot) → g.S.FileBytes.is_steady l.source facts →
      HasParts facts l.unit.parts → first_of (part_fault facts) (take l.part-index l.parts) ≡ None;
  wanted : (facts : SourceFacts g.row.S-Fault.Denot) → g.S.FileBytes.is_steady l.source facts →
      AllByRecursion (PartFailsWithin facts) l.unit.parts →
      first_of (wanted_part_fault facts) (take l.part-index l.parts) ≡ None;
}
