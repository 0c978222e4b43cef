use Rattle.tor_bencode.proofs.Names.{◌≡◌, ◌+◌, ◌*◌, ◌≤◌, ℕ, length, None, option_map, value_at, items_at, pairs_at}
use Rattle.tor_bencode.proofs.Names.{ref_items_view, ref_pairs_view}
use Rattle.tor_bencode.proofs.Loops.{with_items, with_pairs}
use Rattle.tor_bencode.proofs.read.+read.Given as goal

abbrev pub decreases-value : goal.decreases-value
decreases-value l = 2 * l.room

abbrev pub decreases-list : goal.decreases-list
decreases-list l = 2 * l.room + 1

abbrev pub decreases-dictionary : goal.decreases-dictionary
decreases-dictionary l = 2 * l.room + 1

-- the items so far, before what is still read, are all of the list
abbrev pub invariant-list-items : goal.invariant-list-items
invariant-list-items l =
    (fuel : ℕ) × (length l.rest ≤ fuel) × (length l.rest ≤ length l.bytes)
    × (with_items (ref_items_view l.items.items) (items_at (value_at l.room) fuel l.rest)
    ≡ items_at (value_at l.room) (length l.bytes) l.bytes)

abbrev pub decreases-list-items : goal.decreases-list-items
decreases-list-items l = length l.rest

abbrev pub invariant-dictionary-pairs : goal.invariant-dictionary-pairs
invariant-dictionary-pairs l =
    (fuel : ℕ) × (length l.rest ≤ fuel) × (length l.rest ≤ length l.bytes)
    × (with_pairs (ref_pairs_view l.pairs.items) (pairs_at (value_at l.room) fuel
    (option_map (λ key. key.now) l.last) l.rest) ≡ pairs_at (value_at l.room) (length l.bytes) None l.bytes)

abbrev pub decreases-dictionary-pairs : goal.decreases-dictionary-pairs
decreases-dictionary-pairs l = length l.rest
