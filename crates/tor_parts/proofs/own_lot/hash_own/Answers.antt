-- no length had a fault: so a fault is one of a byte
use Rattle.std.proofs.Common.{◌≡◌, ◌∙◌, ℕ, List, None, ap, length, map, subst, sym}
use Rattle.tor_engine.specs.Rows.{AreInFiles, AreSameAt}
use Rattle.tor_parts.specs.Dealing.{dealt}
use Rattle.tor_parts.specs.OwnFiles.{own_length_fault}
use Rattle.tor_parts.proofs.OwnErrors.{own_read}
use Rattle.tor_parts.proofs.PlannedContents.{planned_contents}
use Rattle.tor_plan.specs.declared.units.PlanUnit.{PlanUnit}
use Rattle.tor_source.specs.Source.{SourceFacts}
use Rattle.tor_sums.specs.Contents.{contents_in}
use Rattle.tor_parts.proofs.own_lot.hash_own.Goals as goal

-- of the lengths and units that were asked, and so of the plan's
as_planned : {F : Type 0} (facts : SourceFacts F) (asked lengths : List ℕ) (own units : List PlanUnit)
    → asked ≡ lengths → own ≡ units → AreInFiles lengths own → own_length_fault facts asked own ≡ None
    → (own_length_fault facts lengths units ≡ None) × (contents : List (List ℕ)) × (map length contents ≡ lengths)
    × AreSameAt contents (contents_in facts (length lengths)) units
as_planned facts asked lengths own units same is are faultless =
    let none : own_length_fault facts lengths units ≡ None =
    ap (λ (units : List PlanUnit). own_length_fault facts lengths units) (sym is)
    ∙ ap (λ (lengths : List ℕ). own_length_fault facts lengths own) (sym same) ∙ faultless in
    let (contents, fit, have) = planned_contents facts lengths units
    (subst (λ (units : List PlanUnit). AreInFiles lengths units) is are) none in
    (none, contents, fit, have)

pub returns-in-Ok-expect_own-clause-summed : goal.returns-in-Ok-expect_own-clause-summed
returns-in-Ok-expect_own-clause-summed g c = λ facts contents steady fit same.
    (c.in-Ok-hash_dealt.ensures.summed facts contents steady fit same).0

pub returns-in-Err-hash_dealt-clause-fault : goal.returns-in-Err-hash_dealt-clause-fault
returns-in-Err-hash_dealt-clause-fault g c = λ facts steady.
    let plan = c.args.plan.now in
    let own = c.units_of_lot-units in
    let (none, contents, fit, have) = as_planned facts c.lengths.result.now plan.lengths own.result.now
    (dealt c.args.lots c.args.lot plan.units) c.lengths.ensures own.ensures.units own.ensures.in_files
    (c.in-Ok.ensures.steady facts steady) in
    rw none (c.in-Err-hash_dealt.ensures.summed facts contents steady fit have)

pub returns-in-Err-hash_dealt-clause-of_lot : goal.returns-in-Err-hash_dealt-clause-of_lot
returns-in-Err-hash_dealt-clause-of_lot g c =
    let plan = c.args.plan.now in
    let own = c.units_of_lot-units in
    own_read (g.S.Source.answers c.args.source.now) plan.lengths (dealt c.args.lots c.args.lot plan.units)
    (subst (λ (units : List PlanUnit). AreInFiles plan.lengths units) own.ensures.units own.ensures.in_files)
    c.in-Err-hash_dealt.error c.in-Err-hash_dealt.ensures.of_lot

pub returns-in-Ok-expect_own-clause-fault : goal.returns-in-Ok-expect_own-clause-fault
returns-in-Ok-expect_own-clause-fault g c = λ facts steady.
    let plan = c.args.plan.now in
    let own = c.units_of_lot-units in
    let (none, contents, fit, have) = as_planned facts c.lengths.result.now plan.lengths own.result.now
    (dealt c.args.lots c.args.lot plan.units) c.lengths.ensures own.ensures.units own.ensures.in_files
    (c.in-Ok.ensures.steady facts steady) in
    rw none (c.in-Ok-hash_dealt.ensures.summed facts contents steady fit have).1
