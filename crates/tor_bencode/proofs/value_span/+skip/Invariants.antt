use Rattle.tor_bencode.proofs.Names.{◌≡◌, ◌+◌, ◌*◌, ◌≤◌, List, ℕ, ◌∷◌, ◌++◌, length, Items, ItemsAreLawfulWithin}
use Rattle.tor_bencode.proofs.Names.{items_spelling}
use Rattle.tor_bencode.proofs.value_span.+skip.Given as goal

abbrev pub decreases-skip : goal.decreases-skip
decreases-skip l = 2 * l.room

abbrev pub decreases-skip_all : goal.decreases-skip_all
decreases-skip_all l = 2 * l.room + 1

-- what is left of values is values too, before the same end
abbrev pub invariant-skip_all-values : goal.invariant-skip_all-values
invariant-skip_all-values l =
    (length l.rest ≤ length l.bytes)
    × ((items : Items) (after : List ℕ) → ItemsAreLawfulWithin l.room items
    → l.bytes ≡ items_spelling items ++ 101 ∷ after
    → (left : Items) × ItemsAreLawfulWithin l.room left × (l.rest ≡ items_spelling left ++ 101 ∷ after))

abbrev pub decreases-skip_all-values : goal.decreases-skip_all-values
decreases-skip_all-values l = length l.rest
