-- one part more, and all
use Rattle.tor_plan.proofs.Names.{◌≡◌, List, ◌+◌, ◌<◌, ◌≤◌, ◌∙◌, arith, ap, length, get_or, subst, sum_by, take, IfOk}
use Rattle.tor_plan.proofs.Names.{get_or_default, take_all, sum_by_more, pieces_of_unit, Part, PlanUnit, HasCut}
use Rattle.tor_plan.proofs.PieceCut.{bytes_of_part, first_zeros, zeros_of_part}
use Rattle.tor_plan.proofs.UnitJoins.{part_length}
use Rattle.tor_plan.proofs.units.PlanUnit.pieces.Goals as goal

pub parts-init : goal.parts-init
parts-init c =
    let unit = c.args.self.now in
    record {
      size = c.in_ok-add.ensures.size ∙ c.new-cut.ensures.size;
      cut = subst (HasCut c.add.new.self unit)
          (omega arith) (c.in_ok-add.ensures.cut unit 0 (c.new-cut.ensures.cut unit) (first_zeros unit));
    }

pub parts-preserved : goal.parts-preserved
parts-preserved c =
    let unit = c.args.self.now in
    let i = c.parts.part-index in
    let none : Part = record { file = 0; start = 0; length = 0; zeros = 0 } in
    let same : c.as_slice-part-items.result.now ≡ unit.parts = c.as_slice-part-items.ensures in
    let part : Part = get_or c.as_slice-part-items.result.now i none in
    let lt : i < length unit.parts = subst (λ (ps : List Part). i < length ps) same c.parts-test.true in
    let is : part ≡ get_or unit.parts i part =
    ap (λ ps. get_or ps i none) same ∙ get_or_default unit.parts i none part lt in
    let at = unit.zeros + sum_by part_length (take i unit.parts) in
    record {
      size = c.in_ok-add-3.ensures.size ∙ c.in_ok-add-2.ensures.size ∙ c.parts.invariant.size;
      cut = subst (HasCut c.add-in-parts-2.new.self unit)
          (omega (arith, sum_by_more part_length unit.parts i part lt, ap part_length is))
          (c.in_ok-add-3.ensures.cut unit (at + part.length)
          (c.in_ok-add-2.ensures.cut unit at c.parts.invariant.cut (bytes_of_part unit i part lt is))
          (zeros_of_part unit i part lt is));
    }

pub returns : goal.returns
returns c =
    let unit = c.args.self.now in
    let cut = c.parts.cut in
    let i = c.parts.part-index in
    let past : length unit.parts ≤ i =
    subst (λ (ps : List Part). length ps ≤ i) c.as_slice-part-items.ensures c.parts-test.false in
    subst (λ (all : List PlanUnit). IfOk c.finish.result (λ pieces. pieces.items ≡ all))
    (ap (λ size. pieces_of_unit size unit) c.parts.invariant.size)
    (c.finish.ensures unit (subst (λ (ps : List Part). HasCut cut unit (unit.zeros + sum_by part_length ps))
    (take_all i unit.parts past) c.parts.invariant.cut))
