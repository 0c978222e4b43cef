use Rattle.tor_check.proofs.Names.{◌≡◌, ◌≤◌, ◌+◌, [], drop, sum_by, take, files_from, size_of_listed, aligned_after}
use Rattle.tor_check.proofs.Names.{is_misaligned_after, MAX_LENGTH, MAX_TOTAL}
use Rattle.tor_check.proofs.agree.is_misaligned.Given as goal

-- where the next file begins, and where it is to begin; it is misaligned if one that is left is
abbrev pub invariant-listed : goal.invariant-listed
invariant-listed l =
    (l.start ≡ sum_by size_of_listed (take l.file-index l.listed))
    × (l.aligned ≡ aligned_after l.piece_length (files_from (take l.file-index l.listed)))
    × (l.aligned ≤ MAX_TOTAL + MAX_LENGTH + MAX_LENGTH)
    × (is_misaligned_after l.piece_length [] (files_from l.listed)
    ≡ is_misaligned_after l.piece_length (files_from (take l.file-index l.listed))
    (files_from (drop l.file-index l.listed)))
