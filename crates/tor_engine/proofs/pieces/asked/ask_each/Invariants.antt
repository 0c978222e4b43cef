-- the lengths of the files so far were told
use Rattle.std.proofs.Common.{◌≡◌, None, length}
use Rattle.tor_source.specs.Source.{SourceFacts}
use Rattle.tor_sums.specs.Given.{HasTold}
use Rattle.tor_engine.specs.PieceFault.{first_asked_fault, lengths_told}
use Rattle.tor_engine.proofs.pieces.asked.ask_each.Given as goal

abbrev pub invariant-files : goal.invariant-files
invariant-files g l = record {
  counted : length l.told.items ≡ l.file;
  told : HasTold (g.S.Source.answers l.source) l.told.items;
  steady : (facts : SourceFacts g.row.S-Fault.Denot) → g.S.Source.is_steady l.source facts →
      (l.told.items ≡ lengths_told facts l.file) × (first_asked_fault facts l.file ≡ None);
}
