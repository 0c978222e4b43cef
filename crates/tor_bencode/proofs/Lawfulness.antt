-- Lawfulness, one level or one element at a time.
use Rattle.tor_bencode.proofs.Names.{◌<◌, ◌-◌, ◌↔◌, ℕ, ℤ, List, arith, FitsSigned, w64, Data, integer, string, list}
use Rattle.tor_bencode.proofs.Names.{dictionary, Items, no_items, item, Pairs, no_pairs, pair, keys_of, AreRising}
use Rattle.tor_bencode.proofs.Names.{IsLawfulWithin, ItemsAreLawfulWithin, PairsAreLawfulWithin}

pub lawful-integer : (room : ℕ) (n : ℤ) → FitsSigned w64 n → IsLawfulWithin room (integer n)
lawful-integer room n fits = record { keys = tt; integers = fits; nesting = omega arith }

pub lawful-string : (room : ℕ) (bytes : List ℕ) → IsLawfulWithin room (string bytes)
lawful-string room bytes = record { keys = tt; integers = tt; nesting = omega arith }

-- a list takes one of the room
pub lawful-list : (room : ℕ) (items : Items)
    → IsLawfulWithin room (list items) ↔ ((0 < room) × ItemsAreLawfulWithin (room - 1) items)
lawful-list room items = (
  λ h. let nested = h.nesting in (omega arith, record { keys = h.keys; integers = h.integers; nesting = omega arith }),
  λ h. let more = h.0 in let nested = h.1.nesting in
      record { keys = h.1.keys; integers = h.1.integers; nesting = omega arith },
)

pub lawful-dictionary : (room : ℕ) (pairs : Pairs)
    → IsLawfulWithin room (dictionary pairs) ↔
    ((0 < room) × AreRising (keys_of pairs) × PairsAreLawfulWithin (room - 1) pairs)
lawful-dictionary room pairs = (
  λ h. let nested = h.nesting in
      (omega arith, h.keys.0, record { keys = h.keys.1; integers = h.integers; nesting = omega arith }),
  λ h. let more = h.0 in let nested = h.2.nesting in
      record { keys = (h.1, h.2.keys); integers = h.2.integers; nesting = omega arith },
)

pub lawful-item : (room : ℕ) (d : Data) (items : Items)
    → ItemsAreLawfulWithin room (item d items) ↔ (IsLawfulWithin room d × ItemsAreLawfulWithin room items)
lawful-item room d items = (
  λ h. let nested = h.nesting in (
    record { keys = h.keys.0; integers = h.integers.0; nesting = omega arith },
    record { keys = h.keys.1; integers = h.integers.1; nesting = omega arith },
  ),
  λ h. let first = h.0.nesting in let others = h.1.nesting in
      record { keys = (h.0.keys, h.1.keys); integers = (h.0.integers, h.1.integers); nesting = omega arith },
)

pub lawful-pair : (room : ℕ) (key : List ℕ) (d : Data) (pairs : Pairs)
    → PairsAreLawfulWithin room (pair key d pairs) ↔ (IsLawfulWithin room d × PairsAreLawfulWithin room pairs)
lawful-pair room key d pairs = (
  λ h. let nested = h.nesting in (
    record { keys = h.keys.0; integers = h.integers.0; nesting = omega arith },
    record { keys = h.keys.1; integers = h.integers.1; nesting = omega arith },
  ),
  λ h. let first = h.0.nesting in let others = h.1.nesting in
      record { keys = (h.0.keys, h.1.keys); integers = (h.0.integers, h.1.integers); nesting = omega arith },
)

pub lawful-no_items : (room : ℕ) → ItemsAreLawfulWithin room no_items
lawful-no_items room = record { keys = tt; integers = tt; nesting = omega arith }

pub lawful-no_pairs : (room : ℕ) → PairsAreLawfulWithin room no_pairs
lawful-no_pairs room = record { keys = tt; integers = tt; nesting = omega arith }
