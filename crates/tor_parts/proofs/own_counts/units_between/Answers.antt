-- what holds of all units of a plan holds of these
use Rattle.std.proofs.Common.{◌∙◌, ◌≤◌, ◌-◌, ◌^◌, ℕ, zero, suc, List, [], ◌∷◌, ap, arith, drop, length, subst, sym, take}
use Rattle.std.proofs.lemmas.List.{length-take-le, length-drop}
use Rattle.std.proofs.lemmas.List.Elements.{All-from_recursion, recursion_from_All}
use Rattle.std.specs.List.{All, AllByRecursion}
use Rattle.tor_engine.specs.Rows.{AreInFiles}
use Rattle.tor_parts.proofs.PlanUnits.{small_units, units_in_files}
use Rattle.tor_plan.proofs.ProvedLaws.{units_are_few}
use Rattle.tor_plan.specs.WithinEntries.{IsInFile, unit_length}
use Rattle.tor_plan.specs.declared.units.PlanUnit.{PlanUnit}
use Rattle.tor_parts.proofs.own_counts.units_between.Goals as goal

dropped : {X : Type 0} (P : X → Type 0) (n : ℕ) (xs : List X) → AllByRecursion P xs → AllByRecursion P (drop n xs)
dropped P zero xs all = all
dropped P (suc n) [] all = tt
dropped P (suc n) (x ∷ xs) all = dropped P n xs all.1

taken : {X : Type 0} (P : X → Type 0) (n : ℕ) (xs : List X) → AllByRecursion P xs → AllByRecursion P (take n xs)
taken P zero xs all = tt
taken P (suc n) [] all = tt
taken P (suc n) (x ∷ xs) all = (all.0, taken P n xs all.1)

cut : {X : Type 0} (P : X → Type 0) (from to : ℕ) (xs : List X) → All P xs → All P (take (to - from) (drop from xs))
cut P from to xs all =
    All-from_recursion P (take (to - from) (drop from xs))
    (taken P (to - from) (drop from xs) (dropped P from xs (recursion_from_All P xs all)))

pub returns-clause-in_files : goal.returns-clause-in_files
returns-clause-in_files c =
    let plan = c.args.plan.now in
    let same = c.split_at-2.ensures.front ∙ ap (take (c.args.to - c.args.from)) (c.split_at.ensures.back
    ∙ ap (drop c.args.from) c.units.ensures.value) in
    subst (λ (units : List PlanUnit). AreInFiles plan.lengths units) (sym same)
    (cut (λ (unit : PlanUnit). All (IsInFile plan.lengths) unit.parts) c.args.from c.args.to plan.units
    (units_in_files plan c.units.ensures.planned))

pub returns-clause-small : goal.returns-clause-small
returns-clause-small c =
    let plan = c.args.plan.now in
    let same = c.split_at-2.ensures.front ∙ ap (take (c.args.to - c.args.from)) (c.split_at.ensures.back
    ∙ ap (drop c.args.from) c.units.ensures.value) in
    subst (λ (units : List PlanUnit). All (λ unit. unit_length unit ≤ 2 ^ 40) units) (sym same)
    (cut (λ (unit : PlanUnit). unit_length unit ≤ 2 ^ 40) c.args.from c.args.to plan.units
    (small_units plan c.units.ensures.planned))

pub returns-clause-few : goal.returns-clause-few
returns-clause-few c =
    let plan = c.args.plan.now in
    let few = units_are_few plan c.units.ensures.planned in
    let same = c.split_at-2.ensures.front ∙ ap (take (c.args.to - c.args.from)) (c.split_at.ensures.back
    ∙ ap (drop c.args.from) c.units.ensures.value) in
    let long = length-drop c.args.from plan.units in
    let cut_long = length-take-le (c.args.to - c.args.from) (drop c.args.from plan.units) (omega (arith, long, c.requires.within)) in
    omega (arith, ap length same, cut_long, few, c.requires.within)
