-- The paths of the files so far.
use Rattle.std.proofs.Common.{◌≡◌, map, take}
use Rattle.tor_cli.proofs.recheck.source.paths_of.Given as goal

abbrev pub invariant-files : goal.invariant-files
invariant-files l = l.paths.items ≡ map (λ told. told.file.path) (take l.file-index l.files)
