-- one unit more
use Rattle.std.proofs.Common.{◌≡◌, ◌∙◌, ℕ, List, None, Some, add-one, ap, get_or, map, refl, subst, sym, take}
use Rattle.std.specs.List.{All, Contains, flat_map, slice_index}
use Rattle.tor_parts.specs.OwnFiles.{HasToldOf, files_of, planned_fault}
use Rattle.tor_sums.specs.Fault.{first_of}
use Rattle.tor_plan.specs.declared.units.Part.{Part}
use Rattle.tor_plan.specs.declared.units.PlanUnit.{PlanUnit}
use Rattle.tor_parts.proofs.FirstFaults.{all_more, found_at, none_more}
use Rattle.tor_parts.proofs.OwnErrors.{files_are_own}
use Rattle.tor_parts.proofs.own_files.expect_own.Goals as goal

pub units-init : goal.units-init
unfolding first_of
units-init g c = record { steady = λ facts steady. (tt, refl); told = (tt, tt) }

abbrev files_in : PlanUnit → List ℕ
files_in unit = map (λ part. part.file) unit.parts

pub returns-in-Err-clause-steady : goal.returns-in-Err-clause-steady
returns-in-Err-clause-steady g c = λ facts steady.
    let f = planned_fault facts c.args.lengths.now in
    let so_far = c.units.invariant.steady facts steady in
    let unit = c.unit-item.result in
    let same : c.as_slice.result.now ≡ (get_or c.args.units.now c.units.unit-index unit).parts =
    c.as_slice.ensures ∙ ap (λ (unit : PlanUnit). unit.parts) c.unit-item.is in
    let found = subst (λ (parts : List Part). first_of f (map (λ part. part.file) parts) ≡ Some c.in-Err.error) same
    (c.in-Err.ensures.steady facts steady so_far.0) in
    found_at f files_in c.args.units.now c.units.unit-index unit c.in-Err.error c.units-test.true so_far.1 found

pub returns-in-Err-clause-of_files : goal.returns-in-Err-clause-of_files
returns-in-Err-clause-of_files g c =
    let units = c.args.units.now in
    let unit = c.unit-item.result in
    let same : (get_or units c.units.unit-index unit).parts ≡ c.as_slice.result.now =
    sym (c.as_slice.ensures ∙ ap (λ (unit : PlanUnit). unit.parts) c.unit-item.is) in
    c.in-Err.ensures.of_files (files_of units)
    (subst (λ (parts : List Part). All (λ part. Contains (files_of units) part.file) parts) same
    (files_are_own units c.units.unit-index unit c.units-test.true))

pub units-preserved : goal.units-preserved
units-preserved g c =
    let units = c.args.units.now in
    let lengths = c.args.lengths.now in
    let i = c.units.unit-index in
    let next = add-one i in
    let unit = c.unit-item.result in
    let same : c.as_slice.result.now ≡ (get_or units i unit).parts =
    c.as_slice.ensures ∙ ap (λ (unit : PlanUnit). unit.parts) c.unit-item.is in
    record {
      steady = λ facts steady.
          let f = planned_fault facts lengths in
          let so_far = c.units.invariant.steady facts steady in
          let both = c.in-Ok.ensures.steady facts steady so_far.0 in
          let none = subst (λ (parts : List Part). first_of f (map (λ part. part.file) parts) ≡ None) same both.1 in (
            both.0,
            ap (λ n. first_of f (flat_map files_in (take n units))) next
                ∙ none_more f files_in units i unit c.units-test.true so_far.1 none,
          );
      told =
          let answers = g.S.Source.answers c.args.source.now in
          let so_far = c.units.invariant.told in
          let both = c.in-Ok.ensures.told so_far.0 in (
            both.0,
            subst (λ (n : ℕ). HasToldOf answers lengths (flat_map files_in (take n units))) (sym next)
                (all_more (λ file. answers.told file (Some (slice_index lengths file))) files_in units i unit
                c.units-test.true so_far.1
                (subst (λ (parts : List Part). HasToldOf answers lengths (map (λ part. part.file) parts)) same both.1)),
          );
    }
