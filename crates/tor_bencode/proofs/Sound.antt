-- What is read is spelled so: a value, and items one after another. Where reading stops there is a fault.
use Rattle.tor_bencode.proofs.Names.{◌≡◌, ℕ, zero, suc, ◌≤◌, List, [], ◌∷◌, ◌++◌, length, true, ◌==◌, Ok, Err, refl}
use Rattle.tor_bencode.proofs.Names.{sym, ap, ◌∙◌, append_assoc, arith, inl, true≢false, nat_tests, Data, Items}
use Rattle.tor_bencode.proofs.Names.{no_items, item, Begins, IsFaultIn, at_value, IsLawfulWithin, ItemsAreLawfulWithin}
use Rattle.tor_bencode.proofs.Names.{◌>>=◌, Reading, items_at, spelling, items_spelling, Fault, Truncated}
use Rattle.tor_bencode.proofs.Lawfulness.{lawful-item, lawful-no_items}
use Rattle.tor_bencode.proofs.Runs.{by_test}
use Rattle.tor_bencode.proofs.Spelled.{shorter-spelling}

abbrev pub ValueIs : ℕ → List ℕ → Reading Data → Type 0
ValueIs room bytes (Ok x) = IsLawfulWithin room x.0 × (bytes ≡ spelling x.0 ++ x.1)
ValueIs room bytes (Err f) = IsFaultIn room bytes f.0 f.1

-- lawful items, and then a fault
abbrev pub ItemsStop : ℕ → List ℕ → Fault → List ℕ → Type 0
ItemsStop room bytes fault from =
    (items : Items) × (rest : List ℕ) × (bytes ≡ items_spelling items ++ rest) × ItemsAreLawfulWithin room items
    × (¬ Begins 101 rest) × IsFaultIn room rest fault from

abbrev pub ItemsAre : ℕ → List ℕ → Reading Items → Type 0
ItemsAre room bytes (Ok x) = ItemsAreLawfulWithin room x.0 × (bytes ≡ items_spelling x.0 ++ 101 ∷ x.1)
ItemsAre room bytes (Err f) = ItemsStop room bytes f.0 f.1

cut_value : (room : ℕ) → IsFaultIn room [] Truncated []
cut_value room = at_value (inl refl, refl)

-- one item, and what comes after it
items_next : (room : ℕ) (bytes : List ℕ) (d : Data) (after : List ℕ) (r : Reading Items) → IsLawfulWithin room d
    → bytes ≡ spelling d ++ after → ItemsAre room after r
    → ItemsAre room bytes (r >>= λ others. Ok (item d others.0, others.1))
items_next room bytes d after (Ok x) lawful is h = (
  (lawful-item room d x.0).1 (lawful, h.0),
  is ∙ ap (λ bs. spelling d ++ bs) h.1 ∙ sym (append_assoc (spelling d) (items_spelling x.0) (101 ∷ x.1)),
)
items_next room bytes d after (Err f) lawful is h = (
  item d h.0,
  h.1,
  is ∙ ap (λ bs. spelling d ++ bs) h.2 ∙ sym (append_assoc (spelling d) (items_spelling h.0) h.1),
  (lawful-item room d h.0).1 (lawful, h.3),
  h.4,
  h.5,
)

module _ (room : ℕ) (read : List ℕ → Reading Data) (sound : (bytes : List ℕ) → ValueIs room bytes (read bytes)) where
  items_after : (fuel : ℕ) (bytes : List ℕ) (r : Reading Data) → ¬ Begins 101 bytes
      → ((after : List ℕ) → length after ≤ fuel → ItemsAre room after (items_at read fuel after))
      → length bytes ≤ suc fuel → ValueIs room bytes r
      → ItemsAre room bytes
      (r >>= λ first. items_at read fuel first.1 >>= λ others. Ok (item first.0 others.0, others.1))
  items_after fuel bytes (Ok x) no_end later enough h =
      items_next room bytes x.0 x.1 (items_at read fuel x.1) h.0 h.1
      (later x.1 (omega (arith, shorter-spelling x.0 bytes x.1 h.1)))
  items_after fuel bytes (Err f) no_end later enough h = (no_items, bytes, refl, lawful-no_items room, no_end, h)

  pub items_sound : (fuel : ℕ) (bytes : List ℕ) → length bytes ≤ fuel → ItemsAre room bytes (items_at read fuel bytes)
  items_sound zero [] enough =
      (no_items, [], refl, lawful-no_items room, λ b. absurd (let e = b.1 in cc), cut_value room)
  items_sound zero (c ∷ rest) enough = absurd (omega arith)
  items_sound (suc fuel) [] enough =
      (no_items, [], refl, lawful-no_items room, λ b. absurd (let e = b.1 in cc), cut_value room)
  items_sound (suc fuel) (c ∷ rest) enough =
      by_test (c == 101) (ItemsAre room (c ∷ rest)) _ _
      (λ end. (lawful-no_items room, ap (λ x. x ∷ rest) (let is : c ≡ 101 = grind (arith, nat_tests) in is)))
      (λ other. items_after fuel (c ∷ rest) (read (c ∷ rest)) (λ b. let e = b.1 in let head : c ≡ 101 = cc in
      true≢false (let t : (c == 101) ≡ true = grind (arith, nat_tests) in sym t ∙ other))
      (λ after h. items_sound fuel after h) enough (sound (c ∷ rest)))
