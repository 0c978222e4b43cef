-- The bytes of a range of a unit are a range of the unit.
use Rattle.tor_plan.proofs.Names.{◌≡◌, ℕ, ◌+◌, ◌-◌, ◌<◌, ◌≤◌, cond, ltb, min, max, List, [], ◌∷◌, arith, ap, ap₂, ◌∙◌}
use Rattle.tor_plan.proofs.Names.{sym, inl, inr, zero-add, cases_lt, lt-ltb, le-ltb, cond-true, cond-false, after_part}
use Rattle.tor_plan.proofs.Names.{after_zeros, shared, parts_between, unit_between, Part, PlanUnit}
use Rattle.tor_plan.proofs.PieceSteps.{from, from_first, no_zeros, part_met, part_not_met, shared-add, zeros_twice}
use Rattle.tor_plan.proofs.UnitJoins.{unit_of, zeros_alone}

-- numbers of bytes before an end, and after a begin
end_moved : (b c u : ℕ) → min b (u - c) ≡ min (c + b) u - c
end_moved b c u = omega arith

begin_moved : (a c at end : ℕ) → end - c - max a (at - c) ≡ end - max (c + a) at
begin_moved a c at end = omega arith

none_left : (a c d at end : ℕ) → end ≤ d → d < at → end - c - max a (d - c) ≡ end - max (c + a) at
none_left a c d at end le past = omega (arith, le, past)

-- what a range has of a part, before others
abbrev meets : ℕ → ℕ → ℕ → ℕ → ℕ → ℕ → PlanUnit → PlanUnit
meets a b at file start m later =
    cond (ltb 0 (shared a b at m)) (after_part file (start + (max a at - at)) (shared a b at m) later) later

-- the range from c to d, and of it the bytes from a to b
module _ (a b c d : ℕ) where
  -- where what begins at byte at of the unit begins in the range
  abbrev begin : ℕ → ℕ
  begin at = min d at - c

  abbrev end : ℕ
  end = min d (c + b)

  begin_next : (at m : ℕ) → begin at + shared c d at m ≡ begin (at + m)
  begin_next at m = omega arith

  shared_same : (at m : ℕ) → shared a b (begin at) (shared c d at m) ≡ shared (c + a) end at m
  shared_same at m =
      let last = min d (at + m) in
      ap (λ n. min b n - max a (begin at)) (begin_next at m) ∙ ap (λ n. n - max a (begin at)) (end_moved b c last)
      ∙ ap (λ n. n - c - max a (begin at)) (omega arith) ∙ elim (cases_lt d at) [
        | inl past ↦ ap (λ n. min end (at + m) - c - max a (n - c)) (omega (arith, past))
            ∙ none_left a c d at (min end (at + m)) (omega arith) past
        | inr le ↦ ap (λ n. min end (at + m) - c - max a (n - c)) (omega (arith, le))
            ∙ begin_moved a c at (min end (at + m))
      ]

  zeros_step : (at m : ℕ) (unit : PlanUnit) → from a b (begin at) (after_zeros (shared c d at m) unit)
      ≡ after_zeros (shared (c + a) end at m) (from a b (begin (at + m)) unit)
  zeros_step at m unit =
      let n = shared c d at m in
      let e : begin at + (n + unit.zeros) ≡ begin at + n + unit.zeros = omega arith in
      ap₂ (λ k i. after_zeros k (parts_between a b i unit.parts)) (shared-add a b (begin at) n unit.zeros
      ∙ ap₂ (λ k i. k + shared a b i unit.zeros) (shared_same at m) (begin_next at m))
      (e ∙ ap (λ i. i + unit.zeros) (begin_next at m))
      ∙ zeros_twice (shared (c + a) end at m) (shared a b (begin (at + m)) unit.zeros)
      (parts_between a b (begin (at + m) + unit.zeros) unit.parts)

  -- a part of which the range has some bytes
  module _ (at file start m : ℕ) (unit : PlanUnit) where
    abbrev later : PlanUnit
    later = from a b (begin (at + m)) unit

    start_is : 0 < shared c d at m → 0 < shared (c + a) end at m
        → start + (max c at - at) + (max a (begin at) - begin at) ≡ start + (max (c + a) at - at)
    start_is some more = omega (arith, more)

    of_met : 0 < shared c d at m
        → from a b (begin at) (after_part file (start + (max c at - at)) (shared c d at m) unit)
        ≡ meets (c + a) end at file start m later
    of_met some =
        let part : Part = record {
          file = file;
          start = start + (max c at - at);
          length = shared c d at m;
          zeros = unit.zeros;
        } in
        no_zeros (shared a b (begin at) 0) (parts_between a b (begin at + 0) (part ∷ unit.parts)) (omega arith)
        ∙ ap (λ i. parts_between a b i (part ∷ unit.parts)) (omega arith)
        ∙ elim (cases_lt 0 (shared (c + a) end at m)) [
          | inl more ↦ part_met a b (begin at) part unit.parts (omega (arith, more, shared_same at m))
              ∙ ap₂ (λ i k. after_part file i k (from a b (begin at + part.length) unit)) (start_is some more)
              (shared_same at m)
              ∙ ap (λ i. after_part file (start + (max (c + a) at - at)) (shared (c + a) end at m) (from a b i unit))
              (begin_next at m) ∙ sym (cond-true _ _ _ (lt-ltb 0 (shared (c + a) end at m) more))
          | inr few ↦ part_not_met a b (begin at) part unit.parts (omega (arith, few, shared_same at m))
              ∙ ap (λ i. from a b i unit) (begin_next at m)
              ∙ sym (cond-false _ _ _ (le-ltb 0 (shared (c + a) end at m) few))
        ]

    part_step : from a b (begin at) (meets c d at file start m unit) ≡ meets (c + a) end at file start m later
    part_step = elim (cases_lt 0 (shared c d at m)) [
      | inl some ↦ ap (from a b (begin at)) (cond-true _ _ _ (lt-ltb 0 (shared c d at m) some)) ∙ of_met some
      | inr few ↦ ap (from a b (begin at)) (cond-false _ _ _ (le-ltb 0 (shared c d at m) few))
          ∙ ap (λ i. from a b i unit) (omega (arith, few))
          ∙ sym (cond-false _ _ _ (le-ltb 0 (shared (c + a) end at m) (omega (arith, few))))
    ]

  range_from : (at : ℕ) (parts : List Part)
      → from a b (begin at) (parts_between c d at parts) ≡ parts_between (c + a) end at parts
  unfolding parts_between
  range_from at [] = ap zeros_alone (omega arith)
  range_from at (part ∷ parts) =
      let next = at + part.length in
      part_step at part.file part.start part.length (from c d next (unit_of part.zeros parts))
      ∙ ap (meets (c + a) end at part.file part.start part.length)
      (zeros_step next part.zeros (parts_between c d (next + part.zeros) parts)
      ∙ ap (after_zeros (shared (c + a) end next part.zeros)) (range_from (next + part.zeros) parts))

  pub range_of_range : (unit : PlanUnit) → unit_between a b (unit_between c d unit) ≡ unit_between (c + a) end unit
  range_of_range unit =
      from_first a b (unit_between c d unit) ∙ ap (λ i. from a b i (unit_between c d unit)) (omega arith)
      ∙ zeros_step 0 unit.zeros (parts_between c d unit.zeros unit.parts)
      ∙ ap (after_zeros (shared (c + a) end 0 unit.zeros))
      (ap (λ i. from a b (begin i) (parts_between c d unit.zeros unit.parts)) (zero-add unit.zeros)
      ∙ range_from unit.zeros unit.parts)
