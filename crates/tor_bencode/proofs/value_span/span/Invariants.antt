use Rattle.tor_bencode.proofs.Names.{◌≡◌, ◌-◌, ◌≤◌, [], ◌∷◌, ◌++◌, length, Data, Pairs, IsLawful, PairsAreLawfulWithin}
use Rattle.tor_bencode.proofs.Names.{span_in, span_of, spelling, pairs_spelling}
use Rattle.tor_bencode.proofs.value_span.span.Given as goal

-- the span is among the pairs that are left, if it is anywhere
abbrev pub invariant-pairs : goal.invariant-pairs
invariant-pairs l =
    (length l.rest ≤ length l.bytes)
    × ((d : Data) → IsLawful d → l.bytes ≡ spelling d
    → (left : Pairs) × PairsAreLawfulWithin 99 left × (l.rest ≡ pairs_spelling left ++ 101 ∷ [])
    × (span_of l.key d ≡ span_in (length l.bytes - length l.rest) l.key left))

abbrev pub decreases-pairs : goal.decreases-pairs
decreases-pairs l = length l.rest
