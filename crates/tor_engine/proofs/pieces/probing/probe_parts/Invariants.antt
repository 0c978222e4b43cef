-- the faults of the parts so far
use Rattle.std.proofs.Common.{◌≡◌, ◌<◌, ℕ, All, List, length, take}
use Rattle.std.specs.List.{AllByRecursion, flat_map}
use Rattle.tor_plan.specs.WithinEntries.{IsInFile}
use Rattle.tor_source.specs.Source.{SourceFacts}
use Rattle.tor_sums.specs.Fault.{part_fault}
use Rattle.tor_sums.specs.steps.Given.{IsGivenRead}
use Rattle.tor_sums.specs.steps.Reads.{HasParts}
use Rattle.tor_engine.specs.Readable.{error_of_fault, read_faults}
use Rattle.tor_engine.proofs.pieces.probing.probe_parts.Given as goal

abbrev pub invariant-parts : goal.invariant-parts
invariant-parts g l = record {
  room : 0 < length l.room;
  failed : (facts : SourceFacts g.row.S-Fault.Denot) → g.S.FileBytes.is_steady l.source facts →
      HasParts facts l.parts →
      l.faults.items ≡ flat_map (λ part. read_faults (part_fault facts part)) (take l.part-index l.parts);
  given : (lengths : List ℕ) → All (IsInFile lengths) l.parts →
      AllByRecursion (λ fault. IsGivenRead (g.S.FileBytes.answers l.source) lengths (error_of_fault fault))
      l.faults.items;
}
