-- those that failed among the files so far
use Rattle.std.proofs.Common.{◌≡◌, [], length}
use Rattle.std.specs.List.{AllByRecursion}
use Rattle.tor_source.specs.Source.{SourceFacts}
use Rattle.tor_sums.specs.Given.{IsGivenPieces}
use Rattle.tor_engine.specs.Readable.{error_of_fault, seen_lengths}
use Rattle.tor_engine.proofs.pieces.asking.expect_readable.Given as goal

abbrev pub invariant-files : goal.invariant-files
invariant-files g l = record {
  given : AllByRecursion (λ fault. IsGivenPieces (g.S.Source.answers l.source) (length l.told) (error_of_fault fault))
      l.lost.items;
  steady : (facts : SourceFacts g.row.S-Fault.Denot) → g.S.Source.is_steady l.source facts →
      l.told ≡ seen_lengths facts (length l.told) → l.lost.items ≡ [];
}
