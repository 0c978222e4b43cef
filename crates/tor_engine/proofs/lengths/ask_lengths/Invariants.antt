-- the lengths of the files so far were told
use Rattle.std.proofs.Common.{◌≡◌, length}
use Rattle.tor_source.specs.Source.{SourceFacts}
use Rattle.tor_sums.specs.Fault.{ToldLengths}
use Rattle.tor_sums.specs.Given.{HasToldLengths}
use Rattle.tor_engine.proofs.lengths.ask_lengths.Given as goal

abbrev pub invariant-files : goal.invariant-files
invariant-files g l = record {
  counted : length l.lengths.items ≡ l.file;
  told : HasToldLengths (g.S.Source.answers l.source) l.lengths.items;
  steady : (facts : SourceFacts g.row.S-Fault.Denot) → g.S.Source.is_steady l.source facts →
      ToldLengths facts l.file l.lengths.items;
}
