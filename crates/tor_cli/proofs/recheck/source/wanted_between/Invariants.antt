-- The files so far.
use Rattle.std.proofs.Common.{◌≡◌, map, take}
use Rattle.tor_view.specs.FileBytes.{has_piece_between}
use Rattle.tor_cli.proofs.recheck.source.wanted_between.Given as goal

abbrev pub invariant-files : goal.invariant-files
invariant-files l = l.wanted.items ≡ map (has_piece_between l.from l.to) (take l.file-index l.files)
