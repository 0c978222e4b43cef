use Rattle.tor_check.proofs.Names.{◌≡◌, take, sized_files}
use Rattle.tor_check.proofs.list_side.sized_files.Given as goal

abbrev pub invariant-files : goal.invariant-files
invariant-files l = l.sized.items ≡ sized_files (take l.file-index l.files)
