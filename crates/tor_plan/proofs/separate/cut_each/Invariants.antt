-- the units of the files so far
use Rattle.tor_plan.proofs.Names.{◌≡◌, take, separate_pieces}
use Rattle.tor_plan.proofs.separate.cut_each.Given as goal

abbrev pub invariant-files : goal.invariant-files
invariant-files l = l.units.items ≡ separate_pieces l.size (take l.part-index l.files)
