-- one part, and several
use Rattle.std.proofs.Common.{◌<◌, ◌+◌, ◌^◌, List, ap, arith, length, subst, sym, ◌∙◌, refl}
use Rattle.tor_plan.specs.WithinEntries.{IsInFile}
use Rattle.tor_plan.specs.declared.units.Part.{Part}
use Rattle.std.specs.List.{All, flat_map}
use Rattle.std.proofs.lemmas.Bool.{eqb-true}
use Rattle.tor_sums.specs.Fault.{first_of, part_fault}
use Rattle.tor_sums.specs.steps.Reads.{HasParts}
use Rattle.tor_engine.specs.Readable.{read_faults}
use Rattle.tor_engine.proofs.ReadFaults.{none_held, none_listed, one_part}
use Rattle.tor_engine.proofs.Stopped.{stopped, stopped_by}
use Rattle.tor_engine.proofs.pieces.probing.faults_of.Goals as goal

pub returns-then-parts-le1-clause-failed : goal.returns-then-parts-le1-clause-failed
returns-then-parts-le1-clause-failed g c = λ facts steady have is.
    c.in_ok-one.ensures
    ∙ one_part facts c.args.piece.now.parts c.args.first
    (let few = c.if-parts-le1.true in let same = ap length c.as_slice-parts.ensures in omega (arith, few, same)) is

pub returns-then-is_empty-clause-failed : goal.returns-then-is_empty-clause-failed
returns-then-is_empty-clause-failed g c = λ facts steady have is.
    let same = c.as_slice-parts.ensures in
    let all = c.in-Ok.ensures.failed facts steady
    (subst (λ (ps : List Part). HasParts facts ps) (sym same) have) in
    let none = none_listed facts c.as_slice-parts.result.now (sym all ∙ none_held c.in-Ok.faults.items
    (sym c.in-Ok.faults.ok.0 ∙ eqb-true _ 0 (sym c.if-is_empty.ensures))) in
    let never = sym none ∙ ap (first_of (part_fault facts)) same ∙ is in
    cc

pub returns-clause-given : goal.returns-clause-given
returns-clause-given g c = λ lengths are first.
    c.in-Ok.ensures.given lengths
    (subst (λ (ps : List Part). All (IsInFile lengths) ps) (sym c.as_slice-parts.ensures) are)

pub probe_parts-requires : goal.probe_parts-requires
probe_parts-requires g c =
    subst (λ (ps : List Part). All (λ part. part.start + part.length < 2 ^ 64) ps) (sym c.as_slice-parts.ensures)
    c.requires

pub returns-in-Err-clause-refused : goal.returns-in-Err-clause-refused
returns-in-Err-clause-refused g c = λ facts steady have.
    c.in-Err.ensures.refused facts steady
    (subst (λ (ps : List Part). HasParts facts ps) (sym c.as_slice-parts.ensures) have)

pub returns-in-Err-clause-gave : goal.returns-in-Err-clause-gave
returns-in-Err-clause-gave g c = λ lengths are.
    c.in-Err.ensures.gave lengths
    (subst (λ (ps : List Part). All (IsInFile lengths) ps) (sym c.as_slice-parts.ensures) are)

pub returns-clause-failed : goal.returns-clause-failed
returns-clause-failed g c = λ facts steady have is.
    c.in-Ok.ensures.failed facts steady
    (subst (λ (ps : List Part). HasParts facts ps) (sym c.as_slice-parts.ensures) have)
    ∙ ap (flat_map (λ part. read_faults (part_fault facts part))) c.as_slice-parts.ensures

pub returns-in_err-one : goal.returns-in_err-one
returns-in_err-one g c =
    let r = c.from_residual.result in
    let is = c.from_residual.ensures.1 in record {
      failed = λ facts steady have first. stopped _ _ r is;
      refused = λ facts steady have. stopped_by _ _ r is refl;
      some = stopped _ _ r is;
      given = λ lengths are first. stopped _ _ r is;
      no_read_fault = stopped_by _ _ r is tt;
      gave = λ lengths are. stopped_by _ _ r is tt;
    }

pub returns-in_err-one-2 : goal.returns-in_err-one-2
returns-in_err-one-2 g c =
    let r = c.from_residual-in_err-one-2.result in
    let is = c.from_residual-in_err-one-2.ensures.1 in record {
      failed = λ facts steady have first. stopped _ _ r is;
      refused = λ facts steady have. stopped_by _ _ r is refl;
      some = stopped _ _ r is;
      given = λ lengths are first. stopped _ _ r is;
      no_read_fault = stopped_by _ _ r is tt;
      gave = λ lengths are. stopped_by _ _ r is tt;
    }
