-- the files so far
use Rattle.tor_recheck.proofs.Names.{◌≡◌, map, take}
use Rattle.tor_view.specs.FileBytes.{has_piece_between}
use Rattle.tor_recheck.proofs.own_files.own_files.Given as goal

abbrev pub invariant-files : goal.invariant-files
invariant-files l = l.own.items ≡ map (has_piece_between l.from l.to) (take l.file-index l.file-items)
