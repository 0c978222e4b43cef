-- The first that is refused is one of the chosen.
use Rattle.std.proofs.lemmas.Grind.{common_steps}
use Rattle.std.proofs.Common.{◌<◌, arith, length, map, rules}
use Rattle.std.proofs.lemmas.List.{length-map}
use Rattle.tor_source.specs.Named.{path_of}
use Rattle.tor_cli.proofs.Inventories.{less_taken}
use Rattle.tor_cli.proofs.make.from_place.chosen_at.Goals as goal

pub returns-in-Some-clause-stopped : goal.returns-in-Some-clause-stopped
returns-in-Some-clause-stopped c name attrs =
    let survey = c.in_ok-survey.survey in
    let some : 0 < length survey.refused.items = search rules in
    let count = length-map survey.refused.items path_of in
    let fewer = less_taken c.args.chosen.items survey.paths.items (map path_of survey.refused.items)
    c.in_ok-survey.ensures.each (omega (arith, some, count)) in
    let taken : length c.deref-in-Some.result.now < length c.args.chosen.items =
    rw c.deref-in-Some.ensures.value fewer in
    c.in_ok-first_refusal.ensures name c.args.chosen.items attrs taken

pub returns-clause-paths : goal.returns-clause-paths
returns-clause-paths c = grind (arith, common_steps)

pub returns-clause-each : goal.returns-clause-each
returns-clause-each c = grind (arith, common_steps)
