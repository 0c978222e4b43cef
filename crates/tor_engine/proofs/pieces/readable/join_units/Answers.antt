-- those of one more unit, and of all
use Rattle.std.proofs.Common.{◌∙◌, ap, arith}
use Rattle.std.proofs.IntoIterSteps.{All-taken}
use Rattle.std.proofs.lemmas.Grind.{common_steps}
use Rattle.std.specs.List.{flat_map}
use Rattle.tor_engine.specs.steps.Readable.{unit_hashes_in}
use Rattle.tor_engine.specs.steps.ReadableUnit.{faults_found}
use Rattle.tor_engine.proofs.pieces.readable.join_units.Goals as goal

pub units-preserved : goal.units-preserved
units-preserved g c = grind (arith, common_steps)

pub returns-clause-hashes : goal.returns-clause-hashes
returns-clause-hashes g c =
    let begun = c.into_iter-unit-iterator in
    let all = All-taken begun.result c.units.yielded
    (c.next.new.self, (c.units.unit-iterator, c.units.yielded_by, c.in-None.ensures.steps)) in
    c.of.ensures ∙ c.units.invariant.hashes ∙ ap (flat_map unit_hashes_in) (all ∙ begun.ensures.into_iter_gives.0)

pub returns-clause-faults : goal.returns-clause-faults
returns-clause-faults g c =
    let begun = c.into_iter-unit-iterator in
    let all = All-taken begun.result c.units.yielded
    (c.next.new.self, (c.units.unit-iterator, c.units.yielded_by, c.in-None.ensures.steps)) in
    c.units.invariant.faults ∙ ap (flat_map faults_found) (all ∙ begun.ensures.into_iter_gives.0)
