-- the lengths of the files so far
use Rattle.tor_recheck.proofs.Names.{◌≡◌, map, take}
use Rattle.tor_recheck.proofs.rechecking.lengths_of.Given as goal

abbrev pub invariant-files : goal.invariant-files
invariant-files l = l.lengths.items ≡ map (λ told. told.file.length) (take l.file-index l.files)
