use Rattle.tor_check.proofs.Names.{◌≡◌, ◌-◌, ◌^◌, min, sum_by, take, size_of_listed}
use Rattle.tor_check.proofs.list_side.size_of.Given as goal

-- the bytes of the files so far, or the greatest number of 64 bits
abbrev pub invariant-files : goal.invariant-files
invariant-files l = l.total ≡ min (2 ^ 64 - 1) (sum_by size_of_listed (take l.file-index l.files))
