-- The bytes of the files so far.
use Rattle.std.proofs.Common.{◌≡◌}
use Rattle.tor_source.specs.Source.{SourceFacts}
use Rattle.tor_cli.specs.make.FileSizes.{size_of_files}
use Rattle.tor_cli.proofs.make.piece_length.told_size.Given as goal

abbrev pub invariant-files : goal.invariant-files
invariant-files g l = (facts : SourceFacts g.row.S-Fault.Denot) → g.S.Source.is_steady l.source facts →
    l.size ≡ size_of_files facts l.file
