use Rattle.tor_tree.proofs.Cited.{◌≡◌, ◌≤◌, false, nat_lt, sum_by, take, map, unsigned_abs, next_multiple_of, list_any}
use Rattle.tor_tree.proofs.Cited.{MAX_LENGTH, MAX_TOTAL, ROUNDING}
use Rattle.tor_tree.proofs.read_tree.is_too_large.Given as goal

abbrev pub invariant-loop-entry : goal.invariant-loop-entry
invariant-loop-entry l =
    (l.total ≡ sum_by (λ length. next_multiple_of length ROUNDING)
    (take l.entry-index (map (λ entry. unsigned_abs entry.properties.length) l.entries)))
    × (l.total ≤ MAX_TOTAL) × (list_any (nat_lt MAX_LENGTH)
    (take l.entry-index (map (λ entry. unsigned_abs entry.properties.length) l.entries)) ≡ false)
