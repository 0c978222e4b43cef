-- the files of the units so far
use Rattle.std.proofs.Common.{◌≡◌, None, take}
use Rattle.tor_parts.specs.OwnFiles.{HasToldOf, files_of, own_length_fault}
use Rattle.tor_parts.specs.steps.OwnFiles.{IsAsked, IsToldOf}
use Rattle.tor_source.specs.Source.{SourceFacts}
use Rattle.tor_parts.proofs.own_files.expect_own.Given as goal

abbrev pub invariant-units : goal.invariant-units
invariant-units g l = record {
  steady : (facts : SourceFacts g.row.S-Fault.Denot) → g.S.Source.is_steady l.source facts
      → IsAsked facts l.lengths l.last × (own_length_fault facts l.lengths (take l.unit-index l.units) ≡ None);
  told : IsToldOf (g.S.Source.answers l.source) l.lengths l.last
      × HasToldOf (g.S.Source.answers l.source) l.lengths (files_of (take l.unit-index l.units));
}
