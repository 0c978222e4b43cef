-- The bytes of a unit, and those of a range of it.
use Rattle.tor_plan.proofs.Names.{◌≡◌, ℕ, ◌+◌, ◌-◌, ◌<◌, max, List, [], ◌∷◌, ◌++◌, length, map, get_or, take, drop}
use Rattle.tor_plan.proofs.Names.{sum_by, arith, refl, ap, ap₂, ◌∙◌, sym, append_assoc, append-nil, length-append}
use Rattle.tor_plan.proofs.Names.{length-drop, inl, inr, take-append-add, cases_lt, take_min, take_all, drop_all}
use Rattle.tor_plan.proofs.Names.{take-replicate, drop-replicate, drop-append-le, take-append-le, drop_at, drop-drop}
use Rattle.tor_plan.proofs.Names.{drop-take, take-take, get_or-map, length-map, length-take-le, All-head, All-tail}
use Rattle.tor_plan.proofs.Names.{sum_by-cons, All, flat_map, zeros, length_of_zeros, part_content, unit_content}
use Rattle.tor_plan.proofs.Names.{after_part, after_zeros, shared, parts_between, unit_between, IsInFile, unit_length}
use Rattle.tor_plan.proofs.Names.{Part, PlanUnit}
use Rattle.tor_plan.proofs.Empty.{zeros-nil, zeros-add}
use Rattle.tor_plan.proofs.PieceSteps.{from, part_met, part_not_met}
use Rattle.tor_plan.proofs.UnitJoins.{part_length, unit_of}

-- the rest of two joined lists, and their beginning
drop-append : (n : ℕ) (xs ys : List ℕ) → drop n (xs ++ ys) ≡ drop n xs ++ drop (n - length xs) ys
drop-append n xs ys = elim (cases_lt (length xs) n) [
  | inl more ↦
      ap (λ k. drop k (xs ++ ys)) (omega arith) ∙ sym (drop-drop (n - length xs) (length xs) (xs ++ ys))
      ∙ ap (drop (n - length xs)) (drop_at xs ys (length xs) refl)
      ∙ ap (λ zs. zs ++ drop (n - length xs) ys) (sym (drop_all n xs (omega arith)))
  | inr le ↦ drop-append-le n xs ys le ∙ ap (λ k. drop n xs ++ drop k ys) (let e : 0 ≡ n - length xs = omega arith in e)
]

take-append : (n : ℕ) (xs ys : List ℕ) → take n (xs ++ ys) ≡ take n xs ++ take (n - length xs) ys
take-append n xs ys = elim (cases_lt (length xs) n) [
  | inl more ↦
      ap (λ k. take k (xs ++ ys)) (omega arith) ∙ take-append-add xs ys (n - length xs)
      ∙ ap (λ zs. zs ++ take (n - length xs) ys) (sym (take_all n xs (omega arith)))
  | inr le ↦ take-append-le n xs ys le
      ∙ sym (ap (λ k. take n xs ++ take k ys) (let e : n - length xs ≡ 0 = omega arith in e) ∙ append-nil (take n xs))
]

-- the bytes from a to b of a content that begins at byte at
abbrev pub between : ℕ → ℕ → ℕ → List ℕ → List ℕ
between a b at xs = take (b - max a at) (drop (a - at) xs)

module _ (a b at m : ℕ) where
  between-append : (xs ys : List ℕ) → length xs ≡ m
      → between a b at (xs ++ ys) ≡ between a b at xs ++ between a b (at + m) ys
  between-append xs ys long =
      let s = a - at in
      let n = b - max a at in
      ap (take n) (drop-append s xs ys) ∙ take-append n (drop s xs) (drop (s - length xs) ys)
      ∙ ap (λ zs. take n (drop s xs) ++ zs) (ap₂ (λ j k. take j (drop k ys)) (omega (arith, length-drop s xs, long))
      (omega (arith, long)))

  between-shared : (xs : List ℕ) → length xs ≡ m → take (shared a b at m) (drop (max a at - at) xs) ≡ between a b at xs
  between-shared xs long =
      let s = a - at in
      let n = b - max a at in
      ap₂ (λ j k. take j (drop k xs)) (omega (arith, length-drop s xs, long)) (omega arith) ∙ take_min n (drop s xs)

  between-zeros : zeros (shared a b at m) ≡ between a b at (zeros m)
  unfolding zeros
  between-zeros =
      sym (ap (take (shared a b at m)) (drop-replicate (max a at - at) m 0)
      ∙ take-replicate (shared a b at m) (m - (max a at - at)) 0 (omega arith))
      ∙ between-shared (zeros m) (length_of_zeros m)

module _ (contents : List (List ℕ)) where
  pub zeros_first : (n : ℕ) (unit : PlanUnit)
      → unit_content contents (after_zeros n unit) ≡ zeros n ++ unit_content contents unit
  zeros_first n unit =
      ap (λ xs. xs ++ flat_map (part_content contents) unit.parts) (zeros-add n unit.zeros)
      ∙ append_assoc (zeros n) (zeros unit.zeros) (flat_map (part_content contents) unit.parts)

  pub part_first : (index start n : ℕ) (unit : PlanUnit) → unit_content contents (after_part index start n unit)
      ≡ take n (drop start (get_or contents index [])) ++ unit_content contents unit
  part_first index start n unit =
      let bytes = take n (drop start (get_or contents index [])) in
      let others = flat_map (part_content contents) unit.parts in
      ap (λ xs. xs ++ ((bytes ++ zeros unit.zeros) ++ others)) zeros-nil ∙ append_assoc bytes (zeros unit.zeros) others

  -- ---- where all parts are in their files

  abbrev pub AreThere : List Part → Type 0
  AreThere parts = All (IsInFile (map length contents)) parts

  abbrev bytes_of_part : Part → List ℕ
  bytes_of_part part = take part.length (drop part.start (get_or contents part.file []))

  pub part_long : (part : Part) → IsInFile (map length contents) part → length (bytes_of_part part) ≡ part.length
  part_long part is =
      let file = get_or contents part.file [] in
      let named : part.file < length contents = omega (arith, is.named, length-map contents length) in
      let long = get_or-map length contents part.file [] 0 named in
      length-take-le part.length (drop part.start file) (omega (arith, length-drop part.start file, is.within, long))

  content_long : (parts : List Part) → AreThere parts
      → length (flat_map (part_content contents) parts) ≡ sum_by part_length parts
  content_long [] there = refl
  content_long (part ∷ parts) there =
      let bytes = bytes_of_part part in
      let others = flat_map (part_content contents) parts in
      length-append (bytes ++ zeros part.zeros) others ∙ omega (
        arith,
        length-append bytes (zeros part.zeros),
        length_of_zeros part.zeros,
        part_long part (All-head (IsInFile (map length contents)) part parts there),
        content_long parts (All-tail (IsInFile (map length contents)) part parts there),
        sum_by-cons part_length part parts,
      )

  pub length_of_content : (unit : PlanUnit) → AreThere unit.parts
      → length (unit_content contents unit) ≡ unit_length unit
  length_of_content unit there =
      length-append (zeros unit.zeros) (flat_map (part_content contents) unit.parts)
      ∙ omega (arith, length_of_zeros unit.zeros, content_long unit.parts there)

  module _ (a b : ℕ) where
    -- a range has of a part what it has of its bytes
    part_between : (at : ℕ) (part : Part) → take (shared a b at part.length)
        (drop (part.start + (max a at - at)) (get_or contents part.file []))
        ≡ take (shared a b at part.length) (drop (max a at - at) (bytes_of_part part))
    part_between at part =
        let file = get_or contents part.file [] in
        let n = shared a b at part.length in
        let s = max a at - at in
        let left = part.length - s in
        elim (cases_lt 0 n) [
          | inl some ↦ ap (take n) (sym (drop-drop s part.start file))
              ∙ sym (take-take n left (drop s (drop part.start file)) (omega arith))
              ∙ ap (take n) (sym (drop-take s left (drop part.start file)))
              ∙ ap (λ k. take n (drop s (take k (drop part.start file)))) (omega (arith, some))
          | inr few ↦
              let none : n ≡ 0 = omega (arith, few) in
              ap (λ k. take k (drop (part.start + s) file)) none
              ∙ sym (ap (λ k. take k (drop s (bytes_of_part part))) none)
        ]

    first_between : (at : ℕ) (part : Part) (parts : List Part)
        → unit_content contents (parts_between a b at (part ∷ parts))
        ≡ take (shared a b at part.length) (drop (part.start + (max a at - at)) (get_or contents part.file []))
        ++ unit_content contents (from a b (at + part.length) (unit_of part.zeros parts))
    first_between at part parts =
        let later = from a b (at + part.length) (unit_of part.zeros parts) in
        elim (cases_lt 0 (shared a b at part.length)) [
          | inl some ↦ ap (unit_content contents) (part_met a b at part parts some)
              ∙ part_first part.file (part.start + (max a at - at)) (shared a b at part.length) later
          | inr few ↦ ap (unit_content contents) (part_not_met a b at part parts few)
              ∙ ap (λ n. take n (drop (part.start + (max a at - at)) (get_or contents part.file []))
              ++ unit_content contents later) (let e : 0 ≡ shared a b at part.length = omega (arith, few) in e)
        ]

    zeros_between : (at n : ℕ) (unit : PlanUnit) (xs : List ℕ) → unit_content contents unit ≡ between a b (at + n) xs
        → unit_content contents (after_zeros (shared a b at n) unit) ≡ between a b at (zeros n ++ xs)
    zeros_between at n unit xs rest =
        zeros_first (shared a b at n) unit ∙ ap₂ (λ ys zs. ys ++ zs) (between-zeros a b at n) rest
        ∙ sym (between-append a b at n (zeros n) xs (length_of_zeros n))

    parts_content : (at : ℕ) (parts : List Part) → AreThere parts
        → unit_content contents (parts_between a b at parts) ≡ between a b at (flat_map (part_content contents) parts)
    unfolding parts_between
    parts_content at [] there =
        ap (λ xs. xs ++ []) zeros-nil
        ∙ sym (ap (take (b - max a at)) (drop_all (a - at) [] (omega arith)) ∙ take_all (b - max a at) [] (omega arith))
    parts_content at (part ∷ parts) there =
        let bytes = bytes_of_part part in
        let others = flat_map (part_content contents) parts in
        let long = part_long part (All-head (IsInFile (map length contents)) part parts there) in
        let next = at + part.length in
        first_between at part parts
        ∙ ap₂ (λ xs ys. xs ++ ys) (part_between at part ∙ between-shared a b at part.length bytes long)
        (zeros_between next part.zeros (parts_between a b (next + part.zeros) parts) others
        (parts_content (next + part.zeros) parts (All-tail (IsInFile (map length contents)) part parts there)))
        ∙ sym (between-append a b at part.length bytes (zeros part.zeros ++ others) long)
        ∙ ap (between a b at) (sym (append_assoc bytes (zeros part.zeros) others))

    pub content_between : (unit : PlanUnit) → AreThere unit.parts
        → unit_content contents (unit_between a b unit) ≡ between a b 0 (unit_content contents unit)
    content_between unit there =
        zeros_between 0 unit.zeros (parts_between a b unit.zeros unit.parts)
        (flat_map (part_content contents) unit.parts) (parts_content unit.zeros unit.parts there
        ∙ ap (λ i. between a b i (flat_map (part_content contents) unit.parts)) (omega arith))
