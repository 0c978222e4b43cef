-- The files so far.
use Rattle.std.proofs.Common.{◌≡◌, map, take}
use Rattle.tor_cli.specs.recheck.BadBytes.{HaveBadRanges}
use Rattle.tor_cli.proofs.recheck.bytes_found.bytes_found.Given as goal

abbrev pub invariant-files : goal.invariant-files
invariant-files l =
    (map (λ one. one.found) l.told.items ≡ take l.index l.files)
    × HaveBadRanges l.pieces.items l.bits l.told.items
