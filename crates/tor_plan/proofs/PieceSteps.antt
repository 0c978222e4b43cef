-- Parts of a unit, one after another, and the bytes between two offsets.
use Rattle.tor_plan.proofs.Names.{◌≡◌, ℕ, ◌+◌, ◌-◌, ◌<◌, ◌≤◌, max, List, [], ◌∷◌, refl, arith, ap, ◌∙◌, ap₂, cond, ltb}
use Rattle.tor_plan.proofs.Names.{sum_by, sym, zero-add, sum_by-cons, lt-ltb, le-ltb, cond-true, cond-false, after_part}
use Rattle.tor_plan.proofs.Names.{after_zeros, empty_unit, shared, parts_between, unit_between, unit_length, Part}
use Rattle.tor_plan.proofs.Names.{PlanUnit}
use Rattle.tor_plan.proofs.UnitJoins.{file_then, joined, part_length, parts_then, unit_of, zeros_alone, zeros_then}

-- the bytes from a to b of a unit that begins at byte at
abbrev pub from : ℕ → ℕ → ℕ → PlanUnit → PlanUnit
from a b at unit = after_zeros (shared a b at unit.zeros) (parts_between a b (at + unit.zeros) unit.parts)

pub from_first : (a b : ℕ) (unit : PlanUnit) → unit_between a b unit ≡ from a b 0 unit
from_first a b unit = ap (λ at. after_zeros (shared a b 0 unit.zeros) (parts_between a b at unit.parts))
    (sym (zero-add unit.zeros))

pub shared-add : (a b at n m : ℕ) → shared a b at (n + m) ≡ shared a b at n + shared a b (at + n) m
shared-add a b at n m = omega arith

-- no zeros before a unit
pub no_zeros : (n : ℕ) (unit : PlanUnit) → n ≡ 0 → after_zeros n unit ≡ unit
no_zeros n unit none = ap (λ z. unit_of z unit.parts) (omega (arith, none))

pub zeros_twice : (n k : ℕ) (unit : PlanUnit) → after_zeros (n + k) unit ≡ after_zeros n (after_zeros k unit)
zeros_twice n k unit =
    ap (λ z. unit_of z unit.parts) (omega arith)

-- a part that a range meets, and one that it does not
module _ (a b at : ℕ) (part : Part) (parts : List Part) where
  pub part_met : 0 < shared a b at part.length → parts_between a b at (part ∷ parts)
      ≡ after_part part.file (part.start + (max a at - at)) (shared a b at part.length)
      (from a b (at + part.length) (unit_of part.zeros parts))
  unfolding parts_between
  part_met some = cond-true _ _ _ (lt-ltb 0 (shared a b at part.length) some)

  pub part_not_met : shared a b at part.length ≤ 0
      → parts_between a b at (part ∷ parts) ≡ from a b (at + part.length) (unit_of part.zeros parts)
  unfolding parts_between
  part_not_met none = cond-false _ _ _ (le-ltb 0 (shared a b at part.length) none)

-- a range that has no byte, or ends before the parts
pub between_none : (a b at : ℕ) (parts : List Part) → b ≤ max a at → parts_between a b at parts ≡ empty_unit
unfolding parts_between
between_none a b at [] le = refl
between_none a b at (part ∷ parts) le =
    part_not_met a b at part parts (omega (arith, le)) ∙ ap (after_zeros (shared a b (at + part.length) part.zeros))
    (between_none a b (at + part.length + part.zeros) parts (omega (arith, le))) ∙ ap zeros_alone (omega (arith, le))

-- zeros before a unit, and a unit after another
module _ (a b : ℕ) where
  pub from_zeros : (at n : ℕ) (unit : PlanUnit)
      → from a b at (after_zeros n unit) ≡ after_zeros (shared a b at n) (from a b (at + n) unit)
  from_zeros at n unit =
      ap₂ (λ k i. after_zeros k (parts_between a b i unit.parts)) (shared-add a b at n unit.zeros) (omega arith)
      ∙ zeros_twice (shared a b at n) (shared a b (at + n) unit.zeros)
      (parts_between a b (at + n + unit.zeros) unit.parts)

  from_parts : (at : ℕ) (ps : List Part) (v : PlanUnit) → from a b at (parts_then ps v)
      ≡ joined (parts_between a b at ps) (from a b (at + sum_by part_length ps) v)
  unfolding parts_between
  from_parts at [] v =
      ap (λ i. from a b i v) (omega arith) ∙ sym (no_zeros 0 (from a b (at + 0) v) refl)
  from_parts at (p ∷ ps) v =
      let later = after_zeros p.zeros (parts_then ps v) in
      let next = at + p.length + p.zeros in
      let rest = from a b (next + sum_by part_length ps) v in
      let n = shared a b at p.length in
      let start = p.start + (max a at - at) in
      let part : Part = record { file = p.file; start = p.start; length = p.length; zeros = later.zeros } in
      no_zeros (shared a b at 0) (parts_between a b (at + 0) (part ∷ later.parts)) (omega arith)
      ∙ ap (λ i. parts_between a b i (part ∷ later.parts)) (omega arith)
      ∙ ap (λ u. cond (ltb 0 n) (after_part p.file start n u) u) (from_zeros (at + p.length) p.zeros (parts_then ps v)
      ∙ ap (after_zeros (shared a b (at + p.length) p.zeros)) (from_parts next ps v)
      ∙ sym (zeros_then (shared a b (at + p.length) p.zeros) (parts_between a b next ps) rest))
      ∙ sym (file_then (ltb 0 n) p.file start n
      (after_zeros (shared a b (at + p.length) p.zeros) (parts_between a b next ps)) rest)
      ∙ ap (λ i. joined (parts_between a b at (p ∷ ps)) (from a b i v)) (omega (arith, sum_by-cons part_length p ps))

  pub between_joined : (u v : PlanUnit)
      → unit_between a b (joined u v) ≡ joined (unit_between a b u) (from a b (unit_length u) v)
  between_joined u v =
      from_first a b (joined u v) ∙ from_zeros 0 u.zeros (parts_then u.parts v)
      ∙ ap (after_zeros (shared a b 0 u.zeros)) (from_parts (0 + u.zeros) u.parts v)
      ∙ sym (zeros_then (shared a b 0 u.zeros) (parts_between a b (0 + u.zeros) u.parts) _)
      ∙ ap₂ (λ w i. joined w (from a b i v)) (sym (from_first a b u)) (omega arith)
