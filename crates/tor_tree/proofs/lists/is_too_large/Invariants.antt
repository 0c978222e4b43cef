use Rattle.tor_tree.proofs.Cited.{◌≡◌, ◌≤◌, false, nat_lt, sum_by, take, next_multiple_of, list_any, lengths_of}
use Rattle.tor_tree.proofs.Cited.{MAX_LENGTH, MAX_TOTAL, ROUNDING}
use Rattle.tor_tree.proofs.lists.is_too_large.Given as goal

abbrev pub invariant-loop-length : goal.invariant-loop-length
invariant-loop-length l =
    (l.total ≡ sum_by (λ length. next_multiple_of length ROUNDING) (take l.length-index (lengths_of l.files)))
    × (l.total ≤ MAX_TOTAL) × (list_any (nat_lt MAX_LENGTH) (take l.length-index (lengths_of l.files)) ≡ false)
