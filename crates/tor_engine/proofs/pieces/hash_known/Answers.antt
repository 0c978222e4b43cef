-- the pieces, and the lengths again
use Rattle.std.proofs.Common.{List, length, map, is_some, inl, inr, ap, subst, sym, ◌∙◌, arith}
use Rattle.std.proofs.lemmas.Grind.{common_steps}
use Rattle.tor_plan.specs.Forest.{AreRuns}
use Rattle.tor_plan.specs.declared.forests.Run.{Run}
use Rattle.tor_sums.specs.Contents.{contents_in}
use Rattle.tor_engine.specs.steps.Asked.{first_again_fault}
use Rattle.tor_engine.proofs.AllPieces.{are_told, fault_of_units, hashes_counted, hashes_flat, hashes_joined}
use Rattle.tor_engine.proofs.AllPieces.{hashes_there}
use Rattle.tor_engine.proofs.AskedLengths.{again_same, same_again}
use Rattle.tor_engine.proofs.RunRoots.{no_runs}
use Rattle.tor_engine.proofs.pieces.hash_known.Goals as goal

pub hash_units-requires-clause-runs : goal.hash_units-requires-clause-runs
hash_units-requires-clause-runs g c = λ κs lives.
    subst (λ (runs : List Run). AreRuns (length c.args.units.now) 0 runs) (sym c.new.ensures.items)
    (no_runs (length c.args.units.now))

pub returns-in-Err-clause-hashed : goal.returns-in-Err-clause-hashed
returns-in-Err-clause-hashed g c = λ facts steady told none.
    let plan = c.args.plan.now in
    elim (c.in-Err.ensures.fault facts
    (steady, are_told facts c.args.known.now.lengths.items (length plan.lengths) told)) [
      | inl memory ↦ inl memory
      | inr fault ↦ inr (sym (fault_of_units facts plan c.args.units.now none) ∙ fault)
    ]

pub returns-clause-hashed : goal.returns-clause-hashed
returns-clause-hashed g c = λ facts steady told none.
    let plan = c.args.plan.now in
    let units = c.args.units.now in
    let contents = contents_in facts (length plan.lengths) in
    let sizes = c.args.known.now.lengths.items in
    let known = are_told facts sizes (length plan.lengths) told in (
      c.of.ensures
          ∙ hashes_joined (g.S.Source.is_steady c.args.source.now) plan sizes facts steady known _ _
          c.in-Ok.ensures.summed
          ∙ hashes_flat plan contents units,
      sym (fault_of_units facts plan units none) ∙ c.in-Ok.ensures.fault facts (steady, known),
    )

pub returns-clause-there : goal.returns-clause-there
returns-clause-there g c =
    let plan = c.args.plan.now in
    let sizes = c.args.known.now.lengths.items in
    ap (map is_some) c.of.ensures
    ∙ hashes_there (g.S.Source.is_steady c.args.source.now) plan sizes _ _ c.in-Ok.ensures.summed

pub returns-clause-counted : goal.returns-clause-counted
returns-clause-counted g c =
    let plan = c.args.plan.now in
    ap length c.of.ensures
    ∙ hashes_counted c.args.known.now.lengths.items _ _
    (hashes_there (g.S.Source.is_steady c.args.source.now) plan c.args.known.now.lengths.items _ _
    c.in-Ok.ensures.summed)

pub returns-clause-unchanged : goal.returns-clause-unchanged
returns-clause-unchanged g c = λ facts steady.
    again_same facts c.args.known.now.lengths.items (length c.args.plan.now.lengths) c.requires.counted
    (ap (first_again_fault facts) (sym c.deref.ensures.value) ∙ c.in-Ok-expect_each.ensures.steady facts steady)

pub returns-in-Err-expect_each-clause-hashed : goal.returns-in-Err-expect_each-clause-hashed
returns-in-Err-expect_each-clause-hashed g c = λ facts steady told none.
    let same = same_again facts c.args.known.now.lengths.items (length c.args.plan.now.lengths) c.requires.counted told
    none in
    let never = sym (c.in-Err-expect_each.ensures.steady facts steady)
    ∙ ap (first_again_fault facts) c.deref.ensures.value ∙ same in
    cc

pub returns-in-Err-clause-gave : goal.returns-in-Err-clause-gave
returns-in-Err-clause-gave g c = grind (arith, common_steps)
