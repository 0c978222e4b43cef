-- the lengths of the files so far, and their faults
use Rattle.std.proofs.Common.{◌≡◌, ◌<◌, [], ℕ, None, length}
use Rattle.std.specs.Prelude.{slice_index_or}
use Rattle.std.specs.List.{AllByRecursion, flat_map, range_with_len}
use Rattle.tor_source.specs.Source.{SourceFacts}
use Rattle.tor_sums.specs.Given.{HasTold, IsGivenPieces}
use Rattle.tor_engine.specs.PieceFault.{asked_fault}
use Rattle.tor_engine.specs.Readable.{IsSeenLength, error_of_fault, read_faults, seen_lengths}
use Rattle.tor_engine.proofs.pieces.asking.ask_readable.Given as goal

abbrev pub invariant-files : goal.invariant-files
invariant-files g l = record {
  counted : length l.told.items ≡ l.file;
  told : (file : ℕ) → file < length l.told.items →
      IsSeenLength (g.S.Source.answers l.source) file (slice_index_or l.told.items file None);
  clean : l.faults.items ≡ [] → HasTold (g.S.Source.answers l.source) l.told.items;
  given : AllByRecursion (λ fault. IsGivenPieces (g.S.Source.answers l.source) l.count (error_of_fault fault))
      l.faults.items;
  steady : (facts : SourceFacts g.row.S-Fault.Denot) → g.S.Source.is_steady l.source facts →
      (l.told.items ≡ seen_lengths facts l.file)
      × (l.faults.items ≡ flat_map (λ file. read_faults (asked_fault facts file)) (range_with_len 0 l.file));
}
