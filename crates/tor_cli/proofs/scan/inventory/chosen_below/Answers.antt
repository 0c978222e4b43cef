-- The files that are taken rise as those that are chosen do.
use Rattle.std.proofs.Common.{◌∙◌, List, ℕ, ap, length, map}
use Rattle.std.proofs.lemmas.List.{length-map}
use Rattle.tor_source.specs.Named.{path_of}
use Rattle.tor_source.specs.Places.{place_of}
use Rattle.tor_cli.proofs.Inventories.{taken_rise}
use Rattle.tor_cli.proofs.scan.inventory.chosen_below.Goals as goal

pub returns : goal.returns
returns c =
    let survey = c.in_ok-survey.survey in
    let found = c.in_ok-of_survey.ensures in
    let told = c.in_ok-survey.ensures in
    let count = found.lengths ∙ ap (λ (places : List (List ℕ)). length places) told.placed
    ∙ length-map survey.paths.items (place_of c.args.place.now) in
    rw (found.paths, found.refused) record {
      one_each = count;
      rising = taken_rise c.args.chosen.items survey.paths.items (map path_of survey.refused.items) told.each c.requires;
      short = told.short;
      parts = told.each;
    }
