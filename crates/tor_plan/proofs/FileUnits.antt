-- The units of a file that is cut by itself are the pieces of the file and its padding.
use Rattle.tor_plan.proofs.Names.{◌≡◌, ℕ, ◌+◌, ◌-◌, ◌*◌, ◌<◌, ◌≤◌, cond, leb, min, [], ◌∷◌, map, arith, ap, ap₂}
use Rattle.tor_plan.proofs.Names.{◌∙◌, sym, inl, inr, le-leb, lt-leb, cond-true, cond-false, cases_lt, div_ceil_times}
use Rattle.tor_plan.proofs.Names.{div_ceil, range_with_len, shared, parts_between, piece_of_unit, pieces_of_unit}
use Rattle.tor_plan.proofs.Names.{file_unit, units_of_file, unit_length, Part, PlanUnit, part_alone, ceil_is}
use Rattle.tor_plan.proofs.Names.{below_from_ceil, range_same}
use Rattle.tor_plan.proofs.PieceSteps.{no_zeros, part_met}

module _ (size : ℕ) (pos : 0 < size) (index m tail : ℕ) (fits : (q : ℕ) → m ≤ q * size → m + tail ≤ q * size) where
  abbrev part : Part
  part = record { file = index; start = 0; length = m; zeros = tail }

  alone : ℕ → ℕ → ℕ → PlanUnit
  alone start n zeros = part_alone (record { file = index; start = start; length = n; zeros = zeros })

  zeros_are : (k : ℕ) → k * size < m
      → shared (k * size) ((k + 1) * size) (0 + m) tail + 0 ≡ cond (leb (m - k * size) size) tail 0
  zeros_are k less =
      let next : (k + 1) * size ≡ k * size + size = omega arith in
      elim (cases_lt size (m - k * size)) [
        | inl more ↦ (omega (arith, more, next))
            ∙ sym (cond-false _ _ _ (lt-leb (m - k * size) size more))
        | inr last ↦
            let full = fits (k + 1) (omega (arith, last, next)) in
            (omega (arith, full, less, last, next)) ∙ sym (cond-true _ _ _ (le-leb (m - k * size) size last))
      ]

  file_piece : (k : ℕ) → k * size < m → piece_of_unit size (part_alone part) k ≡ file_unit size index m tail k
  unfolding parts_between alone
  file_piece k less =
      let a = k * size in
      let b = (k + 1) * size in
      let next : b ≡ a + size = omega arith in
      no_zeros (shared a b 0 0) (parts_between a b 0 (part ∷ [])) (omega arith)
      ∙ part_met a b 0 part [] (omega (arith, less, next, pos))
      ∙ ap₂ (λ s n. alone s n (shared a b (0 + m) tail + 0)) (omega arith) (omega (arith, next))
      ∙ ap (alone a (min (m - a) size)) (zeros_are k less)

  pub file_pieces : 0 < m → pieces_of_unit size (part_alone part) ≡ units_of_file size index m tail
  unfolding pieces_of_unit
  file_pieces some =
      let q = div_ceil m size in
      let few = div_ceil_times m size pos in
      let long : unit_length (part_alone part) ≡ m + tail = omega arith in
      ap (λ n. map (piece_of_unit size (part_alone part)) (range_with_len 0 n))
      (ceil_is (unit_length (part_alone part)) size q (omega (arith, long, fits q few.0)) (omega (arith, long, few.1)))
      ∙ range_same (piece_of_unit size (part_alone part)) (file_unit size index m tail) q
      (λ k lt. file_piece k (below_from_ceil m size k pos lt))
