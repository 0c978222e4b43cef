-- The parts of pieces are in the files where those of their units are, and pieces are not too long.
use Rattle.tor_plan.proofs.Names.{◌≡◌, ℕ, ◌+◌, ◌-◌, ◌*◌, min, max, List, [], ◌∷◌, sum_by, arith, ap, ◌∙◌, subst, sym}
use Rattle.tor_plan.proofs.Names.{cond, inl, inr, ltb, cases_lt, cond-false, cond-true, le-ltb, lt-ltb, All-nil}
use Rattle.tor_plan.proofs.Names.{All-cons, All-head, All-tail, sum_by-cons, All, after_part, after_zeros, shared}
use Rattle.tor_plan.proofs.Names.{parts_between, piece_of_unit, unit_between, IsInFile, IsUnitWithin, unit_length, Part}
use Rattle.tor_plan.proofs.Names.{PlanUnit}
use Rattle.tor_plan.proofs.PieceSteps.{from, part_met, part_not_met, shared-add}
use Rattle.tor_plan.proofs.UnitJoins.{unit_of, part_length}

-- three runs of bytes
three_shared : (a b at x y z n : ℕ) → n ≡ x + y + z
    → shared a b at n ≡ shared a b at x + (shared a b (at + x) y + shared a b (at + x + y) z)
three_shared a b at x y z n is =
    ap (shared a b at) (omega (arith, is)) ∙ shared-add a b at x (y + z)
    ∙ ap (λ k. shared a b at x + k) (shared-add a b (at + x) y z)

-- a part, or none of no byte, before others
meets_length : (file start n : ℕ) (later : PlanUnit)
    → unit_length (cond (ltb 0 n) (after_part file start n later) later) ≡ n + unit_length later
meets_length file start n later = elim (cases_lt 0 n) [
  | inl some ↦
      let part : Part = record { file = file; start = start; length = n; zeros = later.zeros } in
      ap unit_length (cond-true _ _ _ (lt-ltb 0 n some)) ∙ omega (arith, sum_by-cons part_length part later.parts)
  | inr few ↦ ap unit_length (cond-false _ _ _ (le-ltb 0 n few)) ∙ omega (arith, few)
]

module _ (a b : ℕ) where
  -- how many bytes there are from a to b
  length_between : (at : ℕ) (parts : List Part)
      → unit_length (parts_between a b at parts) ≡ shared a b at (sum_by part_length parts)
  unfolding parts_between
  length_between at [] = omega arith
  length_between at (part ∷ parts) =
      let next = at + part.length in
      let rest = parts_between a b (next + part.zeros) parts in
      let y = shared a b next part.zeros in
      meets_length part.file (part.start + (max a at - at)) (shared a b at part.length) (after_zeros y rest)
      ∙ ap (λ k. shared a b at part.length + k) ((omega arith)
      ∙ ap (λ k. y + k) (length_between (next + part.zeros) parts))
      ∙ sym (three_shared a b at part.length part.zeros (sum_by part_length parts) (sum_by part_length (part ∷ parts))
      (sum_by-cons part_length part parts))

  pub unit_between_length : (unit : PlanUnit)
      → unit_length (unit_between a b unit) ≡ min b (unit_length unit) - a
  unit_between_length unit = omega (arith, length_between unit.zeros unit.parts)

  module _ (lengths : List ℕ) where
    abbrev AreIn : List Part → Type 0
    AreIn parts = All (IsInFile lengths) parts

    parts_in : (at : ℕ) (parts : List Part) → AreIn parts → AreIn (parts_between a b at parts).parts
    unfolding parts_between
    parts_in at [] held = All-nil (IsInFile lengths)
    parts_in at (part ∷ parts) held =
        let rest = parts_in (at + part.length + part.zeros) parts (All-tail (IsInFile lengths) part parts held) in
        let here = All-head (IsInFile lengths) part parts held in
        let later = from a b (at + part.length) (unit_of part.zeros parts) in
        elim (cases_lt 0 (shared a b at part.length)) [
          | inl some ↦ subst (λ (u : PlanUnit). AreIn u.parts) (sym (part_met a b at part parts some))
              (All-cons (IsInFile lengths) _ later.parts (record {
                named = here.named;
                some = some;
                within = omega (arith, here.within, some);
              }) rest)
          | inr few ↦ subst (λ (u : PlanUnit). AreIn u.parts) (sym (part_not_met a b at part parts few)) rest
        ]

pub pieces_are_within_files : (lengths : List ℕ) (p k : ℕ) (unit : PlanUnit) → All (IsInFile lengths) unit.parts
    → IsUnitWithin lengths p (piece_of_unit p unit k)
pieces_are_within_files lengths p k unit held = record {
  parts = parts_in (k * p) ((k + 1) * p) lengths unit.zeros unit.parts held;
  within = omega (arith, unit_between_length (k * p) ((k + 1) * p) unit);
}
