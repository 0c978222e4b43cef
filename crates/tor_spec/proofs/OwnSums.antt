-- The i-th 20 bytes of the joined SHA-1 of a content's pieces are the SHA-1 of piece i.
use Rattle.tor_spec.proofs.Names.{◌≡◌, ℕ, ◌*◌, ◌<◌, ◌≤◌, List, [], length, take, drop, arith, ap, ◌∙◌, sym, inl}
use Rattle.tor_spec.proofs.Names.{inr, take_all, take_at, drop_at, take-append-drop, length-take-le}
use Rattle.tor_spec.proofs.Names.{cases_lt, drop_all, nil_from_length, div_ceil}
use Rattle.tor_spec.proofs.Names.{run_at, length-piece_sums, sums_of_joined, piece_sums, ceil_at_most, ceil_whole}

module _ (p : ℕ) (some : 0 < p) where
  few_sums : (xs : List ℕ) (k : ℕ) → length xs ≤ k * p → length (piece_sums p xs) ≤ 20 * k
  few_sums xs k le = omega (arith, length-piece_sums p xs, ceil_at_most (length xs) p k some le)

  whole_sums : (xs : List ℕ) (k : ℕ) → length xs ≡ k * p → length (piece_sums p xs) ≡ 20 * k
  whole_sums xs k long =
      length-piece_sums p xs ∙ ap (λ n. 20 * div_ceil n p) long ∙ ap (λ n. 20 * n) (ceil_whole k p some)

  first_sum : (xs : List ℕ) → take 20 (piece_sums p xs) ≡ piece_sums p (take p xs)
  first_sum xs = elim (cases_lt p (length xs)) [
    | inl more ↦
        let x = take p xs in
        let rest = drop p xs in
        let long : length x ≡ 1 * p = length-take-le p xs (omega (arith, more)) ∙ omega arith in
        ap (λ zs. take 20 (piece_sums p zs)) (sym (take-append-drop p xs))
        ∙ ap (take 20) (sums_of_joined p 1 x rest some long)
        ∙ take_at (piece_sums p x) (piece_sums p rest) 20 (whole_sums x 1 long)
    | inr le ↦
        take_all 20 (piece_sums p xs) (few_sums xs 1 (omega (arith, le)))
        ∙ ap (piece_sums p) (sym (take_all p xs le))
  ]

  later_sums : (xs : List ℕ) (i : ℕ) → drop (i * 20) (piece_sums p xs) ≡ piece_sums p (drop (i * p) xs)
  later_sums xs i = elim (cases_lt (i * p) (length xs)) [
    | inl more ↦
        let x = take (i * p) xs in
        let rest = drop (i * p) xs in
        let long : length x ≡ i * p = length-take-le (i * p) xs (omega (arith, more)) in
        ap (λ zs. drop (i * 20) (piece_sums p zs)) (sym (take-append-drop (i * p) xs))
        ∙ ap (drop (i * 20)) (sums_of_joined p i x rest some long)
        ∙ drop_at (piece_sums p x) (piece_sums p rest) (i * 20) (omega (arith, whole_sums x i long))
    | inr le ↦
        let none : piece_sums p [] ≡ [] =
        nil_from_length (piece_sums p []) (omega (arith, few_sums [] 0 (omega arith))) in
        drop_all (i * 20) (piece_sums p xs) (omega (arith, few_sums xs i le))
        ∙ sym (ap (piece_sums p) (drop_all (i * p) xs le) ∙ none)
  ]

  pub sum_of_piece : (xs : List ℕ) (i : ℕ) → piece_sums p (run_at p xs i) ≡ run_at 20 (piece_sums p xs) i
  sum_of_piece xs i = sym (ap (take 20) (later_sums xs i) ∙ first_sum (drop (i * p) xs))
