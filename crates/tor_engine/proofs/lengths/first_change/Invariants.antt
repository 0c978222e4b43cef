-- the files so far are as was planned
use Rattle.std.proofs.Common.{◌≡◌, drop}
use Rattle.tor_sums.specs.Fault.{change_from}
use Rattle.tor_engine.proofs.lengths.first_change.Given as goal

abbrev pub invariant-files : goal.invariant-files
invariant-files l =
    change_from l.file (drop l.file l.told) (drop l.file l.planned) ≡ change_from 0 l.told l.planned
