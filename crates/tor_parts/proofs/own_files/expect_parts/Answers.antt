-- one part more
use Rattle.std.proofs.Common.{◌∙◌, ℕ, Some, add-one, ap, map, refl, subst, sym, take}
use Rattle.std.specs.List.{slice_index}
use Rattle.tor_parts.specs.OwnFiles.{HasToldOf, planned_fault}
use Rattle.tor_sums.specs.Fault.{first_of}
use Rattle.tor_plan.specs.declared.units.Part.{Part}
use Rattle.tor_parts.proofs.FirstFaults.{all_next, found_next, none_next}
use Rattle.tor_parts.proofs.own_files.expect_parts.Goals as goal

pub parts-init : goal.parts-init
unfolding first_of
parts-init g c = record { steady = λ facts steady asked. (asked, refl); told = λ told. (told, tt) }

pub returns-in-Err-clause-steady : goal.returns-in-Err-clause-steady
returns-in-Err-clause-steady g c = λ facts steady asked.
    let so_far = c.parts.invariant.steady facts steady asked in
    let found = c.in-Err.ensures.steady facts steady so_far.0 in
    found_next (planned_fault facts c.args.lengths.now) (λ part. part.file) c.args.parts.now c.parts.part-index _
    c.in-Err.error c.parts-test.true so_far.1 found

pub returns-in-Err-clause-of_files : goal.returns-in-Err-clause-of_files
returns-in-Err-clause-of_files g c = λ files own.
    c.in-Err.ensures.of_files files (own c.parts.part-index _ c.parts-test.true)

pub parts-preserved : goal.parts-preserved
parts-preserved g c =
    let parts = c.args.parts.now in
    let lengths = c.args.lengths.now in
    let i = c.parts.part-index in
    let next = add-one i in
    record {
      steady = λ facts steady asked.
          let so_far = c.parts.invariant.steady facts steady asked in
          let none = c.in-Ok.ensures.steady facts steady so_far.0 in (
            none,
            ap (λ n. first_of (planned_fault facts lengths) (map (λ part. part.file) (take n parts))) next
                ∙ none_next (planned_fault facts lengths) (λ part. part.file) parts i _ c.parts-test.true so_far.1 none,
          );
      told = λ told.
          let so_far = c.parts.invariant.told told in
          let one = c.in-Ok.ensures.told so_far.0 in (
            one,
            subst (λ (n : ℕ). HasToldOf (g.S.Source.answers c.args.source.now) lengths (map (λ part. part.file) (take n parts)))
                (sym next)
                (all_next (λ file. (g.S.Source.answers c.args.source.now).told file (Some (slice_index lengths file)))
                (λ (part : Part). part.file) parts i _ c.parts-test.true so_far.1 one),
          );
    }
