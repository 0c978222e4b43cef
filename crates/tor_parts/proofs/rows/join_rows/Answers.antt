-- what all rows are of
use Rattle.std.proofs.Common.{◌≡◌, ℕ, List, Result, Ok, Err, IfOk, ap, cond, length, subst, sym, ◌∙◌}
use Rattle.tor_engine.specs.Rows.{IsRowOf}
use Rattle.tor_sums.specs.Sums.{AreSumsOfPlan}
use Rattle.tor_sums.specs.declared.sums.Sums.{Sums}
use Rattle.tor_plan.specs.PlanFacts.{PlanFacts}
use Rattle.tor_parts.specs.JoinedRows.{AreContentsOfEach, AreSumsOfEach}
use Rattle.tor_parts.specs.Joining.{pieces_of_lengths}
use Rattle.tor_parts.proofs.RowLists.{are_rows, have_rows}
use Rattle.tor_parts.proofs.rows.join_rows.Goals as goal

as_given : (plan : PlanFacts) (contents : List (List ℕ)) (h i : List (List ℕ)) (p q : List ℕ) → h ≡ i → p ≡ q
    → IsRowOf plan contents plan.units i q → IsRowOf plan contents plan.units h p
as_given plan contents h i p q same alike row =
    subst (λ (hs : List (List ℕ)). IsRowOf plan contents plan.units hs p) (sym same)
    (subst (λ (ps : List ℕ). IsRowOf plan contents plan.units i ps) (sym alike) row)

of_each : {E : Type 0} (plan : PlanFacts) (others : ℕ → List (List ℕ)) (lots : ℕ) (contents : List (List ℕ))
    → AreContentsOfEach plan others lots contents → (result : Result Sums E)
    → IfOk result (AreSumsOfPlan plan contents) → IfOk result (AreSumsOfEach plan others lots)
of_each plan others lots contents each (Ok sums) are = (contents, each, are)
of_each plan others lots contents each (Err error) are = tt

pub join_sums-requires : goal.join_sums-requires
join_sums-requires c =
    let plan = c.args.plan.now in
    let both = c.in_ok-hashes.ensures in
    record {
      counted = λ trees.
          ap length (c.deref.ensures.value ∙ both.0) ∙ c.requires.counted.hashes
          ∙ ap (λ b. cond b (pieces_of_lengths plan.piece_length plan.lengths) 0) trees;
    }

pub returns-clause-summed : goal.returns-clause-summed
returns-clause-summed c = λ contents fit are.
    let plan = c.args.plan.now in
    let both = c.in_ok-hashes.ensures in
    c.join_sums.ensures.summed contents fit
    (as_given plan contents _ _ _ _ (c.deref.ensures.value ∙ both.0) both.1
    (are_rows plan c.args.rows.now c.requires.some contents are))

pub returns-clause-whole : goal.returns-clause-whole
returns-clause-whole c = λ others are.
    let plan = c.args.plan.now in
    let rows = c.args.rows.now in
    let both = c.in_ok-hashes.ensures in
    let there = have_rows plan c.units-planned.ensures.planned rows c.requires.some others are in
    of_each plan others (length rows) there.0 there.1 c.join_sums.result
    (c.join_sums.ensures.summed there.0 there.1.fit
    (as_given plan there.0 _ _ _ _ (c.deref.ensures.value ∙ both.0) both.1 there.2))
