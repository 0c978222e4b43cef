-- all units of a source as it is seen
use Rattle.std.proofs.Common.{List, Option, ℕ, ap, inl, inr, length, refl, subst, sym, ◌∙◌}
use Rattle.std.specs.List.{All, flat_map}
use Rattle.tor_plan.specs.Forest.{AreRuns}
use Rattle.tor_plan.specs.Pieces.{pieces_of_unit}
use Rattle.tor_plan.specs.declared.forests.Run.{Run}
use Rattle.tor_plan.specs.declared.units.PlanUnit.{PlanUnit}
use Rattle.tor_sums.specs.Contents.{contents_in}
use Rattle.tor_sums.specs.steps.Given.{IsGivenRead, lengths_of_sizes}
use Rattle.tor_engine.specs.steps.Pieces.{AreTold, IsUnitToHash}
use Rattle.tor_engine.specs.steps.Readable.{FindsReadable, seen_answers, seen_by, seen_may_be, seen_steady}
use Rattle.tor_engine.specs.steps.Readable.{unit_hashes_in}
use Rattle.tor_engine.specs.steps.ReadableUnit.{faults_found}
use Rattle.tor_engine.proofs.FoundReadable.{finds_as, finds_units}
use Rattle.tor_engine.proofs.PlanPieces.{units_to_hash}
use Rattle.tor_engine.proofs.RunRoots.{no_runs}
use Rattle.tor_engine.proofs.SeenLengths.{no_first, seen_are_told}
use Rattle.tor_engine.proofs.pieces.readable.hash_readable.Goals as goal

pub hash_units-requires-clause-units : goal.hash_units-requires-clause-units
hash_units-requires-clause-units g c = λ κs lives.
    subst (λ (units : List PlanUnit). All (IsUnitToHash c.args.plan.now) units) (sym c.units-units.ensures.value)
    (units_to_hash c.args.plan.now c.units-units.ensures.planned)

pub hash_units-requires-clause-runs : goal.hash_units-requires-clause-runs
hash_units-requires-clause-runs g c = λ κs lives.
    subst (λ (runs : List Run). AreRuns (length c.units-units.result.now) 0 runs) (sym c.new.ensures.items)
    (no_runs (length c.units-units.result.now))

pub returns-in-Err-clause-refused : goal.returns-in-Err-clause-refused
returns-in-Err-clause-refused g c = λ facts steady are.
    let told = c.args.known.now.lengths.items in
    let count = length c.args.plan.now.lengths in
    let slice = c.as_slice.result.now in
    let known = subst (λ (ts : List (Option ℕ)). AreTold told (contents_in (seen_by ts facts) count))
    (sym c.as_slice.ensures.value) (seen_are_told facts told count are) in
    elim (c.in-Err.ensures.fault (seen_by slice facts) ((facts, steady, refl), known)) [
      | inl memory ↦ memory
      | inr fault ↦ let never = sym (no_first c.units-units.result.now) ∙ fault in cc
    ]

pub returns-in-Err-clause-no_read_fault : goal.returns-in-Err-clause-no_read_fault
returns-in-Err-clause-no_read_fault g c = c.in-Err.ensures.gave.0

pub returns-in-Err-clause-gave : goal.returns-in-Err-clause-gave
returns-in-Err-clause-gave g c =
    let told = c.args.known.now.lengths.items in
    let answers = g.S.Source.answers c.args.source.now in
    subst (λ (ts : List (Option ℕ)). IsGivenRead (seen_answers ts answers) (lengths_of_sizes told) c.in-Err.error)
    c.as_slice.ensures.value c.in-Err.ensures.gave.1

pub returns-clause-found : goal.returns-clause-found
returns-clause-found g c =
    let plan = c.args.plan.now in
    let told = c.args.known.now.lengths.items in
    let is_steady = g.S.Source.is_steady c.args.source.now in
    let answers = g.S.Source.answers c.args.source.now in
    let slice = c.as_slice.result.now in
    let units = c.units-units.result.now in
    let ones = c.in-Ok.found.0.items in
    let all = finds_units (seen_steady slice is_steady)
    (IsGivenRead (seen_answers slice answers) (lengths_of_sizes told)) plan told units ones c.in-Ok.ensures.summed in
    let by_told = subst (λ (ts : List (Option ℕ)). FindsReadable (seen_steady ts is_steady)
    (IsGivenRead (seen_answers ts answers) (lengths_of_sizes told)) plan told
    (flat_map (pieces_of_unit plan.piece_length) units) (flat_map unit_hashes_in ones)
    (flat_map faults_found ones)) c.as_slice.ensures.value all in
    finds_as (seen_steady told is_steady) (seen_may_be told answers) plan told
    (ap (flat_map (pieces_of_unit plan.piece_length)) c.units-units.ensures.value)
    (sym c.in_ok-joined.ensures.hashes) (sym c.in_ok-joined.ensures.faults) by_told
