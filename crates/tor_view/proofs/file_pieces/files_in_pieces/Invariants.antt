-- the files so far
use Rattle.tor_view.proofs.Names.{◌≡◌, map, take}
use Rattle.tor_view.proofs.RangeSteps.{pieced}
use Rattle.tor_view.proofs.file_pieces.files_in_pieces.Given as goal

abbrev pub invariant-files : goal.invariant-files
invariant-files l = l.files.items ≡ map (pieced l.piece_length) (take l.span-index l.span-items)
