-- the files of the parts so far
use Rattle.std.proofs.Common.{◌≡◌, None, map, take}
use Rattle.tor_parts.specs.OwnFiles.{HasToldOf, planned_fault}
use Rattle.tor_parts.specs.steps.OwnFiles.{IsAsked, IsToldOf}
use Rattle.tor_source.specs.Source.{SourceFacts}
use Rattle.tor_sums.specs.Fault.{first_of}
use Rattle.tor_parts.proofs.own_files.expect_parts.Given as goal

abbrev pub invariant-parts : goal.invariant-parts
invariant-parts g l = record {
  steady : (facts : SourceFacts g.row.S-Fault.Denot) → g.S.Source.is_steady l.source facts
      → IsAsked facts l.lengths l.fn.last → IsAsked facts l.lengths l.last
      × (first_of (planned_fault facts l.lengths) (map (λ part. part.file) (take l.part-index l.parts)) ≡ None);
  told : IsToldOf (g.S.Source.answers l.source) l.lengths l.fn.last
      → IsToldOf (g.S.Source.answers l.source) l.lengths l.last
      × HasToldOf (g.S.Source.answers l.source) l.lengths (map (λ part. part.file) (take l.part-index l.parts));
}
