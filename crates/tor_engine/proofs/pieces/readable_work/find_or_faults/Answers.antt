-- a piece that can be read, and one that cannot
use Rattle.std.proofs.Common.{◌≡◌, List, [], ◌∷◌, Some, ap, cond, inl, inr, length, subst, sym, true, ◌∙◌, refl, arith}
use Rattle.std.proofs.lemmas.Grind.{elements}
use Rattle.std.specs.List.{flat_map}
use Rattle.tor_source.specs.Source.{SourceFacts}
use Rattle.tor_sums.specs.Contents.{contents_in}
use Rattle.tor_sums.specs.Fault.{part_fault}
use Rattle.tor_sums.specs.steps.Given.{IsGivenRead, lengths_of_sizes}
use Rattle.tor_sums.specs.declared.errors.EngineError.TheVariants.{Resources}
use Rattle.tor_engine.specs.PieceFault.{piece_fault}
use Rattle.tor_engine.specs.There.{is_within}
use Rattle.tor_engine.specs.Readable.{IsNoReadFault, error_of_fault, read_faults}
use Rattle.tor_engine.specs.steps.Pieces.{AreTold, hashes_in}
use Rattle.tor_engine.specs.steps.Readable.{FindsReadable}
use Rattle.tor_engine.proofs.FoundReadable.{finds_alone, finds_lost}
use Rattle.tor_engine.proofs.ReadFaults.{no_other, no_read, piece_is_read, piece_there}
use Rattle.tor_engine.proofs.PartsInside.{source_has_unit, unit_in_told}
use Rattle.tor_engine.proofs.Stopped.{stopped, stopped_by, stopped_on}
use Rattle.tor_engine.proofs.pieces.readable_work.find_or_faults.Goals as goal

pub returns-in-Ok-clause-found : goal.returns-in-Ok-clause-found
returns-in-Ok-clause-found g c =
    let is_steady = g.S.FileBytes.is_steady c.args.source.now in
    let told = c.args.known.now.lengths.items in
    let may_be = IsGivenRead (g.S.FileBytes.answers c.args.source.now) (lengths_of_sizes told) in
    subst (λ (faults : List _). FindsReadable is_steady may_be c.args.plan.now told (c.args.piece.now ∷ [])
    (hashes_in c.in-Ok.found ∷ []) faults) (sym c.new.ensures.items)
    (finds_alone is_steady may_be c.args.plan.now told c.args.piece.now c.in-Ok.found c.in-Ok.ensures.found
    c.in-Ok.ensures.fault)

pub returns-in-Err-as_read_fault-clause-refused : goal.returns-in-Err-as_read_fault-clause-refused
returns-in-Err-as_read_fault-clause-refused g c = λ facts steady are.
    let contents = contents_in facts (length c.args.plan.now.lengths) in
    elim (c.in-Err.ensures.fault facts steady are) [
      | inl memory ↦ c.in-Err-as_read_fault.ensures.0 ∙ memory
      | inr fault ↦ absurd (no_other facts (piece_fault facts contents c.args.piece.now) c.in-Err.error
          (piece_is_read facts contents c.args.piece.now) fault c.in-Err-as_read_fault.ensures.1)
    ]

pub returns-in-Err-as_read_fault-clause-no_read_fault : goal.returns-in-Err-as_read_fault-clause-no_read_fault
returns-in-Err-as_read_fault-clause-no_read_fault g c =
    subst (λ error. IsNoReadFault error) (sym c.in-Err-as_read_fault.ensures.0)
    (no_read (g.S.FileBytes.answers c.args.source.now) (lengths_of_sizes c.args.known.now.lengths.items) c.in-Err.error
    c.in-Err.ensures.gave c.in-Err-as_read_fault.ensures.1)

pub returns-in-Ok-faults_of-clause-found : goal.returns-in-Ok-faults_of-clause-found
returns-in-Ok-faults_of-clause-found g c =
    let plan = c.args.plan.now in
    let piece = c.args.piece.now in
    let is_steady = g.S.FileBytes.is_steady c.args.source.now in
    let told = c.args.known.now.lengths.items in
    let may_be = IsGivenRead (g.S.FileBytes.answers c.args.source.now) (lengths_of_sizes told) in
    let first = c.in-Ok-as_read_fault.first in
    let same = c.in-Ok-as_read_fault.ensures in
    let within = elim c.in-Err.ensures.there as (λ _. is_within told piece ≡ true) [
      | inl memory ↦ let never : Resources ≡ error_of_fault first = sym memory ∙ same in cc
      | inr within ↦ within
    ] in
    let fault_is : (facts : SourceFacts g.row.S-Fault.Denot) → is_steady facts
    → AreTold told (contents_in facts (length plan.lengths))
    → piece_fault facts (contents_in facts (length plan.lengths)) piece ≡ Some (error_of_fault first) =
    λ facts steady are. elim (c.in-Err.ensures.fault facts steady are)
    as (λ _. piece_fault facts (contents_in facts (length plan.lengths)) piece ≡ Some (error_of_fault first)) [
      | inl memory ↦ let never : Resources ≡ error_of_fault first = sym memory ∙ same in cc
      | inr fault ↦ fault ∙ ap Some same
    ] in
    finds_lost is_steady may_be plan told piece c.in-Ok-faults_of.faults.items
    (λ facts steady are.
    let contents = contents_in facts (length plan.lengths) in
    let at = piece_there facts contents piece (error_of_fault first) (fault_is facts steady are) in
    c.in-Ok-faults_of.ensures.failed facts steady
    (source_has_unit facts plan piece c.requires.piece.unit.parts at.0) at.1
    ∙ sym (ap (λ b. cond b (flat_map (λ part. read_faults (part_fault facts part)) piece.parts) []) at.0))
    (λ facts steady are. (error_of_fault first, fault_is facts steady are))
    c.in-Ok-faults_of.ensures.some
    (c.in-Ok-faults_of.ensures.given (lengths_of_sizes told)
    (unit_in_told told plan.lengths piece c.requires.piece.unit.parts within)
    (subst may_be same c.in-Err.ensures.gave))

pub returns-in-Err-faults_of-clause-refused : goal.returns-in-Err-faults_of-clause-refused
returns-in-Err-faults_of-clause-refused g c = λ facts steady are.
    let plan = c.args.plan.now in
    let piece = c.args.piece.now in
    let contents = contents_in facts (length plan.lengths) in
    let first = c.in-Ok-as_read_fault.first in
    let same = c.in-Ok-as_read_fault.ensures in
    elim (c.in-Err.ensures.fault facts steady are) [
      | inl memory ↦ let never : Resources ≡ error_of_fault first = sym memory ∙ same in cc
      | inr fault ↦
          let at = piece_there facts contents piece (error_of_fault first) (fault ∙ ap Some same) in
          c.in-Err-faults_of.ensures.refused facts steady
          (source_has_unit facts plan piece c.requires.piece.unit.parts at.0)
    ]

pub returns-in-Err-faults_of-clause-gave : goal.returns-in-Err-faults_of-clause-gave
returns-in-Err-faults_of-clause-gave g c =
    let told = c.args.known.now.lengths.items in
    let first = c.in-Ok-as_read_fault.first in
    let within = elim c.in-Err.ensures.there as (λ _. is_within told c.args.piece.now ≡ true) [
      | inl memory ↦ let never : Resources ≡ error_of_fault first = sym memory ∙ c.in-Ok-as_read_fault.ensures in cc
      | inr within ↦ within
    ] in
    c.in-Err-faults_of.ensures.gave (lengths_of_sizes told)
    (unit_in_told told c.args.plan.now.lengths c.args.piece.now c.requires.piece.unit.parts within)

pub returns-in-Err-as_read_fault-clause-gave : goal.returns-in-Err-as_read_fault-clause-gave
returns-in-Err-as_read_fault-clause-gave g c =
    subst (λ error. IsGivenRead (g.S.FileBytes.answers c.args.source.now)
    (lengths_of_sizes c.args.known.now.lengths.items) error) (sym c.in-Err-as_read_fault.ensures.0)
    c.in-Err.ensures.gave

pub returns-in_err-worker : goal.returns-in_err-worker
returns-in_err-worker g c =
    let r = c.from_residual.result in
    let is = c.from_residual.ensures.1 in record {
      owing = stopped_on _ _ r is;
      found = stopped _ _ r is;
      refused = λ facts steady are. stopped_by _ _ r is refl;
      no_read_fault = stopped_by _ _ r is tt;
      gave = stopped_by _ _ r is tt;
    }

pub faults_of-requires : goal.faults_of-requires
faults_of-requires g c = grind (arith, elements)
