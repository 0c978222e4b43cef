-- The bytes of the files so far.
use Rattle.std.proofs.Common.{◌≡◌, take}
use Rattle.tor_cli.specs.make.FileSizes.{total_of}
use Rattle.tor_cli.proofs.scan.lines.total_of.Given as goal

abbrev pub invariant-lengths : goal.invariant-lengths
invariant-lengths l = l.total ≡ total_of (take l.length-index l.lengths)
