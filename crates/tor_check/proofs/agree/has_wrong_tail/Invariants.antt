use Rattle.tor_check.proofs.Names.{◌≡◌, ◌≤◌, sum_by, take, files_from, size_of_listed, last_size, tail_size, MAX_LENGTH}
use Rattle.tor_check.proofs.agree.has_wrong_tail.Given as goal

-- the last filled file so far, and the padding after it
abbrev pub invariant-listed : goal.invariant-listed
invariant-listed l =
    (l.last ≡ last_size (files_from (take l.file-index l.listed)))
    × (l.tail ≡ tail_size (files_from (take l.file-index l.listed)))
    × (l.last ≤ MAX_LENGTH)
    × (l.tail ≤ sum_by size_of_listed (take l.file-index l.listed))
