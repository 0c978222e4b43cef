-- The bytes that spell the pairs between two indices.
use Rattle.tor_edit.proofs.Names.{◌≡◌, ◌+◌, ◌-◌, ◌≤◌, ◌++◌, ◌∙◌, ℕ, List, sym, ap, arith, codes, length, take, drop}
use Rattle.tor_edit.proofs.Names.{take-add, take_at, drop_at, take-append-drop, length-append, append_assoc}
use Rattle.tor_edit.proofs.Names.{pairs_view, pairs_spelling}
use Rattle.tor_edit.proofs.ByIndex.{Pair, view-append}
use Rattle.tor_edit.proofs.Pairs.{spelling-joined}

take_parts : (xs : List Pair) (from to : ℕ) → from ≤ to → take to xs ≡ take from xs ++ take (to - from) (drop from xs)
take_parts xs from to le =
    let sum : to ≡ from + (to - from) = omega arith in
    ap (λ n. take n xs) sum ∙ take-add from (to - from) xs

-- the pairs up to an index are those up to an earlier one, and those between
parts : (xs : List Pair) (from to : ℕ) → from ≤ to
    → pairs_spelling (pairs_view (take to xs))
    ≡ pairs_spelling (pairs_view (take from xs)) ++ pairs_spelling (pairs_view (take (to - from) (drop from xs)))
parts xs from to le =
    ap (λ ys. pairs_spelling (pairs_view ys)) (take_parts xs from to le)
    ∙ ap pairs_spelling (view-append (take from xs) (take (to - from) (drop from xs)))
    ∙ spelling-joined (pairs_view (take from xs)) (pairs_view (take (to - from) (drop from xs)))

-- the whole, cut at two indices
whole : (xs : List Pair) (from to : ℕ) → from ≤ to
    → pairs_spelling (pairs_view xs)
    ≡ pairs_spelling (pairs_view (take from xs))
    ++ (pairs_spelling (pairs_view (take (to - from) (drop from xs))) ++ pairs_spelling (pairs_view (drop to xs)))
whole xs from to le =
    ap (λ ys. pairs_spelling (pairs_view ys)) (sym (take-append-drop to xs))
    ∙ ap pairs_spelling (view-append (take to xs) (drop to xs))
    ∙ spelling-joined (pairs_view (take to xs)) (pairs_view (drop to xs))
    ∙ ap (λ text. text ++ pairs_spelling (pairs_view (drop to xs))) (parts xs from to le)
    ∙ append_assoc (pairs_spelling (pairs_view (take from xs)))
    (pairs_spelling (pairs_view (take (to - from) (drop from xs)))) (pairs_spelling (pairs_view (drop to xs)))

module _ (xs : List Pair) (bytes : List ℕ) (from to start end : ℕ) (ordered : from ≤ to)
    (spelled : bytes ≡ codes "d" ++ pairs_spelling (pairs_view xs) ++ codes "e")
    (start_is : start ≡ 1 + length (pairs_spelling (pairs_view (take from xs))))
    (end_is : end ≡ 1 + length (pairs_spelling (pairs_view (take to xs)))) where
  abbrev earlier : List ℕ
  earlier = pairs_spelling (pairs_view (take from xs))

  abbrev inside : List ℕ
  inside = pairs_spelling (pairs_view (take (to - from) (drop from xs)))

  abbrev later : List ℕ
  later = pairs_spelling (pairs_view (drop to xs))

  end_from_start : end ≡ start + length inside
  end_from_start =
      omega (arith, start_is, end_is, ap (length {A = ℕ}) (parts xs from to ordered), length-append earlier inside)

  cut : bytes ≡ (codes "d" ++ earlier) ++ (inside ++ (later ++ codes "e"))
  cut =
      spelled ∙ ap (λ text. codes "d" ++ text ++ codes "e") (whole xs from to ordered)
      ∙ simp append_assoc

  pub bounds : (start ≤ end) × (end ≤ length bytes)
  bounds =
      let whole_size = ap (length {A = ℕ}) cut in
      let all = length-append (codes "d" ++ earlier) (inside ++ (later ++ codes "e")) in
      let first = length-append (codes "d") earlier in
      let second = length-append inside (later ++ codes "e") in (
        omega (arith, end_from_start),
        omega (arith, end_from_start, start_is, whole_size, all, first, second),
      )

  pub is_inside : take (end - start) (drop start bytes) ≡ inside
  is_inside =
      let from_start : length (codes "d" ++ earlier) ≡ start =
      omega (arith, start_is, length-append (codes "d") earlier) in
      let size : end - start ≡ length inside = omega (arith, end_from_start) in
      ap (λ text. take (end - start) (drop start text)) cut
      ∙ ap (take (end - start)) (drop_at (codes "d" ++ earlier) (inside ++ (later ++ codes "e")) start from_start)
      ∙ take_at inside (later ++ codes "e") (end - start) (sym size)
