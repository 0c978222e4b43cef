-- one part after the other
use Rattle.std.proofs.Common.{◌++◌, List, ap, refl, ap₂, arith, subst, sym, ◌∙◌}
use Rattle.std.specs.List.{AllByRecursion, flat_map}
use Rattle.std.proofs.lemmas.List.{take_all}
use Rattle.tor_sums.specs.Fault.{part_fault}
use Rattle.tor_sums.specs.steps.Given.{IsGivenRead}
use Rattle.tor_sums.specs.steps.Reads.{HasPart}
use Rattle.tor_sums.proofs.PartReads.{all_append}
use Rattle.tor_sums.proofs.Parts.{one_of_parts}
use Rattle.tor_engine.specs.Readable.{error_of_fault, read_faults}
use Rattle.tor_engine.specs.steps.Readable.{listed}
use Rattle.tor_engine.proofs.ReadFaults.{flat_more}
use Rattle.tor_engine.proofs.pieces.probing.probe_parts.Goals as goal

pub parts-preserved : goal.parts-preserved
parts-preserved g c =
    let parts = c.args.parts.now in
    let i = c.parts.part-index in
    record {
      room = omega (arith, c.parts.invariant.room, c.in-Ok.ensures.len);
      failed = λ facts steady have.
          c.in_ok-add_fault.ensures
          ∙ ap₂ (λ xs ys. xs ++ ys) (c.parts.invariant.failed facts steady have)
          (c.in-Ok.ensures.failed facts steady
          (one_of_parts (HasPart facts) parts parts i _ c.parts-test.true refl have))
          ∙ flat_more (λ part. read_faults (part_fault facts part)) parts i _ c.parts-test.true;
      given = λ lengths are.
          subst (λ (faults : List _). AllByRecursion (λ fault.
          IsGivenRead (g.S.FileBytes.answers c.args.source.now) lengths (error_of_fault fault)) faults)
          (sym c.in_ok-add_fault.ensures)
          (all_append (λ fault. IsGivenRead (g.S.FileBytes.answers c.args.source.now) lengths (error_of_fault fault))
          c.parts.faults.items (listed c.in-Ok.found) (c.parts.invariant.given lengths are)
          (c.in-Ok.ensures.given lengths (are i _ c.parts-test.true)));
    }

pub returns-in-Err-clause-refused : goal.returns-in-Err-clause-refused
returns-in-Err-clause-refused g c = λ facts steady have.
    let parts = c.args.parts.now in
    absurd (c.in-Err.ensures.refused facts steady
    (one_of_parts (HasPart facts) parts parts c.parts.part-index _ c.parts-test.true refl have))

pub returns-in-Err-clause-gave : goal.returns-in-Err-clause-gave
returns-in-Err-clause-gave g c = λ lengths are.
    c.in-Err.ensures.gave lengths (are c.parts.part-index _ c.parts-test.true)

pub returns-clause-failed : goal.returns-clause-failed
returns-clause-failed g c = λ facts steady have.
    c.parts.invariant.failed facts steady have
    ∙ ap (flat_map (λ part. read_faults (part_fault facts part)))
    (take_all c.parts.part-index c.args.parts.now c.parts-test.false)
