-- The pieces of a unit of whole pieces, and then another.
use Rattle.tor_plan.proofs.Names.{◌≡◌, ℕ, ◌+◌, ◌-◌, ◌*◌, ◌<◌, ◌≤◌, cond, ltb, max, List, [], ◌∷◌, ◌++◌, map, sum_by}
use Rattle.tor_plan.proofs.Names.{refl, arith, ap, ap₂, ◌∙◌, sym, mul-le-mul_right, div_ceil_times, sum_by-cons}
use Rattle.tor_plan.proofs.Names.{div_ceil, range_with_len, after_part, after_zeros, empty_unit, shared, parts_between}
use Rattle.tor_plan.proofs.Names.{piece_of_unit, pieces_of_unit, unit_between, unit_length, Part, PlanUnit, ceil_is}
use Rattle.tor_plan.proofs.Names.{range_same}
use Rattle.tor_plan.proofs.PieceSteps.{between_joined, between_none, from, no_zeros, part_not_met}
use Rattle.tor_plan.proofs.Runs.{map_same, range-add}
use Rattle.tor_plan.proofs.UnitJoins.{joined, joined_length, part_length, then_nothing, unit_of, zeros_alone}

module _ (a b : ℕ) where
  -- a range that begins after the unit
  parts_past : (at : ℕ) (ps : List Part) → at + sum_by part_length ps ≤ a → parts_between a b at ps ≡ empty_unit
  unfolding parts_between
  parts_past at [] past = refl
  parts_past at (p ∷ ps) past =
      let long = sum_by-cons part_length p ps in
      part_not_met a b at p ps (omega (arith, past, long)) ∙ ap (after_zeros (shared a b (at + p.length) p.zeros))
      (parts_past (at + p.length + p.zeros) ps (omega (arith, past, long))) ∙ ap zeros_alone (omega (arith, past, long))

  unit_past : (u : PlanUnit) → unit_length u ≤ a → unit_between a b u ≡ empty_unit
  unit_past u past =
      ap (after_zeros (shared a b 0 u.zeros)) (parts_past u.zeros u.parts past) ∙ ap zeros_alone (omega (arith, past))

  -- a range and a unit that begin later
  parts_later : (c at : ℕ) (ps : List Part) → parts_between (c + a) (c + b) (c + at) ps ≡ parts_between a b at ps
  unfolding parts_between
  parts_later c at [] = refl
  parts_later c at (p ∷ ps) =
      let n = shared a b at p.length in
      let rest = from a b (at + p.length) (unit_of p.zeros ps) in
      ap₂ (λ k u. cond (ltb 0 k) (after_part p.file (p.start + (max (c + a) (c + at) - (c + at))) k u) u) (omega arith)
      (ap₂ (λ z i. after_zeros z (parts_between (c + a) (c + b) i ps)) (omega arith) (omega arith)
      ∙ ap (after_zeros (shared a b (at + p.length) p.zeros)) (parts_later c (at + p.length + p.zeros) ps))
      ∙ ap (λ s. cond (ltb 0 n) (after_part p.file (p.start + s) n rest) rest) (omega arith)

  unit_later : (c : ℕ) (u : PlanUnit) → from (c + a) (c + b) c u ≡ unit_between a b u
  unit_later c u =
      ap (λ z. after_zeros z (parts_between (c + a) (c + b) (c + u.zeros) u.parts)) (omega arith)
      ∙ ap (after_zeros (shared a b 0 u.zeros)) (parts_later c u.zeros u.parts)

module _ (p n : ℕ) (pos : 0 < p) (u v : PlanUnit) (whole : unit_length u ≡ n * p) where
  abbrev all : ℕ → PlanUnit
  all = piece_of_unit p (joined u v)

  first : (k : ℕ) → k < n → all k ≡ piece_of_unit p u k
  first k lt =
      let a = k * p in
      let b = (k + 1) * p in
      let le : b ≤ n * p = mul-le-mul_right {m = k + 1} {n = n} p (omega (arith, lt)) in
      let at = unit_length u in
      between_joined a b u v ∙ ap (joined (unit_between a b u))
      (ap (after_zeros (shared a b at v.zeros)) (between_none a b (at + v.zeros) v.parts (omega (arith, le, whole)))
      ∙ ap zeros_alone (omega (arith, le, whole))) ∙ then_nothing (unit_between a b u)

  later : (k : ℕ) → all (n + k) ≡ piece_of_unit p v k
  later k =
      let a = (n + k) * p in
      let b = (n + k + 1) * p in
      let moved : a ≡ n * p + k * p = omega arith in
      between_joined a b u v
      ∙ ap (λ w. joined w (from a b (unit_length u) v)) (unit_past a b u (omega (arith, whole, moved)))
      ∙ no_zeros 0 (from a b (unit_length u) v) refl ∙ ap (λ i. from a b i v) whole
      ∙ ap₂ (λ x y. from x y (n * p) v) moved (omega arith) ∙ unit_later (k * p) ((k + 1) * p) (n * p) v

  pub pieces_joined : pieces_of_unit p (joined u v) ≡ pieces_of_unit p u ++ pieces_of_unit p v
  unfolding pieces_of_unit
  pieces_joined =
      let q = div_ceil (unit_length v) p in
      let few = div_ceil_times (unit_length v) p pos in
      let more : (n + q) * p ≡ n * p + q * p = omega arith in
      let long = joined_length u v in
      ap (λ k. map all (range_with_len 0 k))
      (ceil_is (unit_length (joined u v)) p (n + q) (omega (arith, long, whole, more, few.0))
      (omega (arith, long, whole, more, few.1))) ∙ sym (range-add all n q) ∙ ap₂ (λ xs ys. xs ++ ys)
      (range_same all (piece_of_unit p u) n first ∙ ap (λ k. map (piece_of_unit p u) (range_with_len 0 k))
      (sym (ceil_is (unit_length u) p n (omega (arith, whole)) (omega (arith, whole, pos)))))
      (map_same (λ k. all (n + k)) (piece_of_unit p v) later (range_with_len 0 q))
