-- The lengths of files, added one after another, and compared with the most that they may be.
use Rattle.tor_tree.proofs.Cited.{◌≡◌, ℕ, ◌+◌, ◌<◌, ◌≤◌, true, false, List, length, get_or, take, map, ◌⊎◌, inl, inr}
use Rattle.tor_tree.proofs.Cited.{nat_lt, sum_by, sym, ap, ◌∙◌, arith, next_multiple_of, list_any, lt-ltb, le-ltb}
use Rattle.tor_tree.proofs.Cited.{or_left, or_right, or_from, get_or-map, length-map, list_any_at, list_any_more}
use Rattle.tor_tree.proofs.Cited.{sum_by_more, sum_by-take-le, lengths_too_large, MAX_LENGTH, MAX_TOTAL, ROUNDING}

-- a length, rounded up
abbrev pub rounded : ℕ → ℕ
rounded n = next_multiple_of n ROUNDING

module _ {X : Type 0} (key : X → ℕ) (xs : List X) (i : ℕ) (x : X) (within : i < length xs)
    (is : x ≡ get_or xs i x) where
  length_at : get_or (map key xs) i 0 ≡ key x
  length_at = get_or-map key xs i x 0 within ∙ sym (ap key is)

  in_map : i < length (map key xs)
  in_map = rw length-map within

  -- where one length, or the sum with it, is too large, all are
  pub too_large_here : (total : ℕ) → total ≡ sum_by rounded (take i (map key xs))
      → (MAX_LENGTH < key x) ⊎ (MAX_TOTAL < total + rounded (key x)) → true ≡ lengths_too_large (map key xs)
  too_large_here total e (inl over) =
      sym (or_left _ _
      (list_any_at (nat_lt MAX_LENGTH) (map key xs) i 0 in_map (rw length_at (lt-ltb MAX_LENGTH (key x) over))))
  too_large_here total e (inr over) =
      let more = sum_by_more rounded (map key xs) i 0 in_map in
      let whole : MAX_TOTAL < sum_by rounded (map key xs) =
      omega (arith, sum_by-take-le rounded (map key xs) (i + 1), more, ap rounded length_at) in
      sym (or_right (list_any (nat_lt MAX_LENGTH) (map key xs)) _ (lt-ltb _ _ whole))

  pub sum_with : sum_by rounded (take (i + 1) (map key xs)) ≡ sum_by rounded (take i (map key xs)) + rounded (key x)
  sum_with =
      sum_by_more rounded (map key xs) i 0 in_map ∙ ap (λ n. sum_by rounded (take i (map key xs)) + rounded n) length_at

  pub none_over_with : key x ≤ MAX_LENGTH → list_any (nat_lt MAX_LENGTH) (take i (map key xs)) ≡ false
      → list_any (nat_lt MAX_LENGTH) (take (i + 1) (map key xs)) ≡ false
  none_over_with small before =
      list_any_more (nat_lt MAX_LENGTH) (map key xs) i 0 in_map
      ∙ or_from _ _ before (rw length_at (le-ltb MAX_LENGTH (key x) small))
