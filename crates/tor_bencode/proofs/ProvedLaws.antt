-- The laws of `src/laws.rt`, for proofs that cite them.
use Rattle.tor_bencode.proofs.Names.{◌≡◌, ◌⊎◌, ◌≤◌, ◌↔◌, ℕ, suc, ◌-◌, List, length, Some, Result, Ok, Err, ap, arith}
use Rattle.tor_bencode.proofs.Names.{inl, inr, refl, subst, Data, list, dictionary, Items, Pairs, no_pairs, pair}
use Rattle.tor_bencode.proofs.Names.{keys_of, Fault, IsFaultAt, value_in, value_of, cases_Bool, none-some, bytes_eq}
use Rattle.tor_bencode.proofs.Names.{AreRising, HasRisingKeys, IsLawfulWithin, ItemsAreLawfulWithin}
use Rattle.tor_bencode.proofs.Names.{PairsAreLawfulWithin, PairsHaveRisingKeys, IsTree, whole}
use Rattle.tor_bencode.proofs.Keys.{some_is_one}
use Rattle.tor_bencode.proofs.ReadBack.{whole-spelling}
use Rattle.tor_bencode.proofs.RefusedWhole.{refused_read}
use Rattle.tor_bencode.proofs.Whole.{WholeIs, whole_sound, refused_within}
pub use Rattle.tor_bencode.proofs.Keys.{none_before as no_value_before_the_first_key}
pub use Rattle.tor_bencode.proofs.Keys.{same_pairs as pairs_by_their_values}
pub use Rattle.tor_bencode.proofs.Lawfulness.{lawful-integer as integer_is_lawful, lawful-string as string_is_lawful}
pub use Rattle.tor_bencode.proofs.Lawfulness.{lawful-item as items_are_lawful, lawful-pair as pairs_are_lawful}
pub use Rattle.tor_bencode.proofs.Lawfulness.{lawful-no_items as no_items_are_lawful}
pub use Rattle.tor_bencode.proofs.Lawfulness.{lawful-no_pairs as no_pairs_are_lawful}
pub use Rattle.tor_bencode.proofs.Spans.{found_at as span_of_a_value, none_found as no_span_no_value}
pub use Rattle.tor_bencode.proofs.ReadBack.{same_front as no_spelling_begins_another}

tree_or_fault : (bytes : List ℕ) (r : Result Data (Fault × List ℕ)) → WholeIs bytes r
    → IsTree bytes ⊎ ((fault : Fault) × (offset : ℕ) × IsFaultAt bytes fault offset)
tree_or_fault bytes (Ok d) h = inl (d, h.0, h.1)
tree_or_fault bytes (Err f) h =
    inr (f.0, length bytes - length f.1, (f.1, omega (arith, refused_within bytes f.0 f.1 h), h))

failures_agree : (x y : Fault × List ℕ) (r : Result Data (Fault × List ℕ)) → r ≡ Err x → r ≡ Err y → x ≡ y
failures_agree x y r e f = cc

pub never_both : (d : Data) (x : Fault × List ℕ) (r : Result Data (Fault × List ℕ)) → r ≡ Ok d → r ≡ Err x → ⊥
never_both d x r e f = cc

-- bytes either spell a lawful tree or have a fault
pub tree_or_one_fault : (bytes : List ℕ)
    → IsTree bytes ⊎ ((fault : Fault) × (offset : ℕ) × IsFaultAt bytes fault offset)
tree_or_one_fault bytes = tree_or_fault bytes (whole bytes) (whole_sound bytes)

-- and never both
pub tree_has_no_fault : (bytes : List ℕ) (fault : Fault) (offset : ℕ) → IsTree bytes → ¬ IsFaultAt bytes fault offset
tree_has_no_fault bytes fault offset tree h =
    never_both tree.0 (fault, h.0) (whole bytes) (whole-spelling tree.0 bytes tree.1 tree.2)
    (refused_read bytes fault h.0 h.2)

-- they have one fault at most
pub one_fault : (bytes : List ℕ) (first second : Fault) (m n : ℕ)
    → IsFaultAt bytes first m → IsFaultAt bytes second n → (first ≡ second) × (m ≡ n)
one_fault bytes first second m n h k =
    let same =
    failures_agree (first, h.0) (second, k.0) (whole bytes) (refused_read bytes first h.0 h.2)
    (refused_read bytes second k.0 k.2) in
    (ap (λ f. f.0) same, omega (arith, h.1, k.1, ap (λ f. length f.1) same))

-- what is lawful within a room is lawful within a larger one
pub lawful_within_more : (room more : ℕ) (d : Data) → room ≤ more → IsLawfulWithin room d → IsLawfulWithin more d
lawful_within_more room more d le h = record { keys = h.keys; integers = h.integers; nesting = omega arith }

pub items_lawful_within_more : (room more : ℕ) (items : Items) → room ≤ more
    → ItemsAreLawfulWithin room items → ItemsAreLawfulWithin more items
items_lawful_within_more room more items le h = record { keys = h.keys; integers = h.integers; nesting = omega arith }

pub pairs_lawful_within_more : (room more : ℕ) (pairs : Pairs) → room ≤ more
    → PairsAreLawfulWithin room pairs → PairsAreLawfulWithin more pairs
pairs_lawful_within_more room more pairs le h = record { keys = h.keys; integers = h.integers; nesting = omega arith }

-- when a list or a dictionary is lawful: it takes one of the room
pub list_is_lawful : (room : ℕ) (items : Items)
    → IsLawfulWithin (suc room) (list items) ↔ ItemsAreLawfulWithin room items
list_is_lawful room items = (
  λ h. let nested = h.nesting in record { keys = h.keys; integers = h.integers; nesting = omega arith },
  λ h. let nested = h.nesting in record { keys = h.keys; integers = h.integers; nesting = omega arith },
)

pub dictionary_is_lawful : (room : ℕ) (pairs : Pairs) → IsLawfulWithin (suc room) (dictionary pairs)
    ↔ (AreRising (keys_of pairs) × PairsAreLawfulWithin room pairs)
dictionary_is_lawful room pairs = (
  λ h. let nested = h.nesting in (h.keys.0, record { keys = h.keys.1; integers = h.integers; nesting = omega arith }),
  λ h. let nested = h.1.nesting in record { keys = (h.0, h.1.keys); integers = h.1.integers; nesting = omega arith },
)

-- the keys inside a value rise where those of its dictionary do
value_rises : (key : List ℕ) (pairs : Pairs) (value : Data) → PairsHaveRisingKeys pairs
    → value_in key pairs ≡ Some value → HasRisingKeys value
value_rises key no_pairs value h is = absurd (none-some value is)
value_rises key (pair k first pairs) value h is = elim (cases_Bool (bytes_eq k key)) [
  | inl same ↦ subst HasRisingKeys (some_is_one first value (Some first) refl (rw same at is)) h.0
  | inr other ↦ value_rises key pairs value h.1 (rw other at is)
]

pub value_has_rising_keys : (key : List ℕ) (d value : Data) → HasRisingKeys d → value_of key d ≡ Some value
    → HasRisingKeys value
value_has_rising_keys key (dictionary pairs) value h is = value_rises key pairs value h.1 is
value_has_rising_keys key d value h is = absurd (none-some value is)
