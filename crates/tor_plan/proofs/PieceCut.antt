-- The bytes of a unit by their offsets.
use Rattle.tor_plan.proofs.Names.{◌≡◌, ℕ, ◌+◌, ◌-◌, ◌<◌, ◌≤◌, cond, ltb, max, List, [], ◌∷◌, ◌++◌, length, get_or, take}
use Rattle.tor_plan.proofs.Names.{drop, sum_by, refl, arith, ap, ap₂, ◌∙◌, sym, subst, append-nil, take-append-drop}
use Rattle.tor_plan.proofs.Names.{drop_more, sum_by-cons, after_part, after_zeros, empty_unit, shared, parts_between}
use Rattle.tor_plan.proofs.Names.{unit_between, unit_length, Part, PlanUnit, joined, part_alone, zeros_alone, Bytes}
use Rattle.tor_plan.proofs.Names.{Zeros, IsStretchAt}
use Rattle.tor_plan.proofs.PieceSteps.{between_none, from, part_met}
use Rattle.tor_plan.proofs.UnitJoins.{unit_of, zeros_then, file_then, then_nothing, part_length}

-- parts before the end of a range, where it is known what those after them have more
module _ (a x y : ℕ) (rest : List Part) (v : PlanUnit) (le : x ≤ y) where
  more_parts : (at q : ℕ) (before : List Part) → q ≡ at + sum_by part_length before → q ≤ x
      → parts_between a y q rest ≡ joined (parts_between a x q rest) v
      → parts_between a y at (before ++ rest) ≡ joined (parts_between a x at (before ++ rest)) v
  unfolding parts_between
  more_parts at q [] is past more =
      subst (λ (i : ℕ). parts_between a y i rest ≡ joined (parts_between a x i rest) v) (omega (arith, is)) more
  more_parts at q (part ∷ before) is past more =
      let long = sum_by-cons part_length part before in
      let next = at + part.length + part.zeros in
      let zeros : shared a y (at + part.length) part.zeros ≡ shared a x (at + part.length) part.zeros =
      omega (arith, is, long, past) in
      let others = parts_between a x next (before ++ rest) in
      let later = after_zeros (shared a x (at + part.length) part.zeros) others in
      ap₂ (λ n u. cond (ltb 0 n) (after_part part.file (part.start + (max a at - at)) n u) u)
      (omega (arith, is, long, past))
      (ap₂ (λ n u. after_zeros n u) zeros (more_parts next q before (omega (arith, is, long)) past more)
      ∙ sym (zeros_then (shared a x (at + part.length) part.zeros) others v))
      ∙ sym (file_then (ltb 0 (shared a x at part.length)) part.file (part.start + (max a at - at))
      (shared a x at part.length) later v)

  -- and the zeros before all parts
  pub more_of_unit : (z q : ℕ) (before parts : List Part) → parts ≡ before ++ rest → q ≡ z + sum_by part_length before
      → q ≤ x → parts_between a y q rest ≡ joined (parts_between a x q rest) v
      → unit_between a y (unit_of z parts) ≡ joined (unit_between a x (unit_of z parts)) v
  more_of_unit z q before parts split is past more =
      ap (λ ps. unit_between a y (unit_of z ps)) split ∙ ap₂ (λ n u. after_zeros n u) (omega (arith, is, past))
      (more_parts z q before is past more) ∙ sym (zeros_then (shared a x 0 z) (parts_between a x z (before ++ rest)) v)
      ∙ ap (λ ps. joined (unit_between a x (unit_of z ps)) v) (sym split)

pub unit_none : (a b : ℕ) (unit : PlanUnit) → b ≤ a → unit_between a b unit ≡ empty_unit
unit_none a b unit le =
    ap (after_zeros (shared a b 0 unit.zeros)) (between_none a b unit.zeros unit.parts (omega (arith, le)))
    ∙ ap zeros_alone (omega (arith, le))

pub unit_all : (a x y : ℕ) (unit : PlanUnit) → unit_length unit ≤ x → x ≤ y
    → unit_between a y unit ≡ unit_between a x unit
unfolding parts_between
unit_all a x y unit past le =
    more_of_unit a x y [] empty_unit le unit.zeros (unit_length unit) unit.parts unit.parts
    (sym (append-nil unit.parts)) (omega arith) past refl ∙ then_nothing (unit_between a x unit)

-- zeros before all parts
pub first_zeros : (unit : PlanUnit) → IsStretchAt unit 0 Zeros unit.zeros
first_zeros unit = λ a i k begun some within.
    let z = unit.zeros in
    let none : (b : ℕ) → b ≤ z → unit_between a b unit ≡ zeros_alone (shared a b 0 z + 0) =
    λ b le. ap (after_zeros (shared a b 0 z)) (between_none a b z unit.parts (omega (arith, le))) in
    none (0 + i + k) (omega (arith, within)) ∙ ap zeros_alone (omega (arith, begun, within))
    ∙ sym (ap (λ u. joined u (zeros_alone k)) (none (0 + i) (omega (arith, within))))

-- the part at an index, after those before it
module _ (unit : PlanUnit) (i : ℕ) (part : Part) (lt : i < length unit.parts)
    (is : part ≡ get_or unit.parts i part) where
  abbrev before : List Part
  before = take i unit.parts

  abbrev later : List Part
  later = drop (i + 1) unit.parts

  abbrev at : ℕ
  at = unit.zeros + sum_by part_length before

  split : unit.parts ≡ before ++ part ∷ later
  split = sym (take-append-drop i unit.parts)
      ∙ ap (λ ps. before ++ ps) (drop_more unit.parts i part lt ∙ ap (λ p. p ∷ later) (sym is))

  pub bytes_of_part : IsStretchAt unit at (Bytes part.file part.start) part.length
  bytes_of_part = λ a j k begins some within.
      let x = at + j in
      let new : Part = record { file = part.file; start = part.start + j; length = k; zeros = 0 } in
      let bytes : shared a (x + k) at part.length ≡ k = omega (arith, begins, within) in
      more_of_unit a x (x + k) (part ∷ later) (part_alone new) (omega arith) unit.zeros at before unit.parts split refl
      (omega arith) (part_met a (x + k) at part later (omega (arith, bytes, some))
      ∙ ap₂ (λ s n. after_part part.file s n (from a (x + k) (at + part.length) (unit_of part.zeros later)))
      (omega (arith, begins)) bytes
      ∙ ap (after_part part.file (part.start + j) k) (later_none a (x + k) (omega (arith, within)))
      ∙ sym (ap (λ u. joined u (part_alone new)) (between_none a x at (part ∷ later) (omega (arith, begins))))) where
        later_none : (a b : ℕ) → b ≤ at + part.length
            → from a b (at + part.length) (unit_of part.zeros later) ≡ empty_unit
        later_none a b le =
            ap (after_zeros (shared a b (at + part.length) part.zeros))
            (between_none a b (at + part.length + part.zeros) later (omega (arith, le)))
            ∙ ap zeros_alone (omega (arith, le))

  pub zeros_of_part : IsStretchAt unit (at + part.length) Zeros part.zeros
  unfolding parts_between
  zeros_of_part = λ a j k begun some within.
      let x = at + part.length + j in
      let z = part.zeros in
      let end = at + part.length in
      let next = end + z in
      let rest : (b : ℕ) → b ≤ next → after_zeros (shared a b end z) (parts_between a b next later)
      ≡ zeros_alone (shared a b end z + 0) =
      λ b le. ap (after_zeros (shared a b end z)) (between_none a b next later (omega (arith, le))) in
      let more : after_zeros (shared a (x + k) end z) (parts_between a (x + k) next later)
      ≡ joined (after_zeros (shared a x end z) (parts_between a x next later)) (zeros_alone k) =
      rest (x + k) (omega (arith, within)) ∙ ap zeros_alone (omega (arith, begun, within))
      ∙ sym (ap (λ u. joined u (zeros_alone k)) (rest x (omega (arith, within)))) in
      more_of_unit a x (x + k) (part ∷ later) (zeros_alone k) (omega arith) unit.zeros at before unit.parts split refl
      (omega arith) (ap₂ (λ n u. cond (ltb 0 n) (after_part part.file (part.start + (max a at - at)) n u) u)
      (omega arith) more ∙ sym (file_then (ltb 0 (shared a x at part.length)) part.file (part.start + (max a at - at))
      (shared a x at part.length) (after_zeros (shared a x end z) (parts_between a x next later)) (zeros_alone k)))
