-- The list was read before.
use Rattle.std.proofs.Common.{inr, option_map}
use Rattle.std.proofs.lemmas.Result.{IfErr-weaker, IfOk-weaker}
use Rattle.tor_cli.proofs.make.command.make_of_place.Goals as goal

pub returns-clause-made : goal.returns-clause-made
returns-clause-made g c =
    let chosen = option_map (λ paths. paths.items) c.in_ok-chosen.chosen in
    IfOk-weaker c.make_of_files.result _ _ (λ _ does. (chosen, c.in_ok-chosen.ensures.chosen, does))
    (c.make_of_files.ensures.made (g.R.Read.remaining c.chosen_files.new.reader))

pub returns-clause-stopped : goal.returns-clause-stopped
returns-clause-stopped g c =
    let chosen = option_map (λ paths. paths.items) c.in_ok-chosen.chosen in
    IfErr-weaker c.make_of_files.result _ _ (λ fault why. inr (chosen, c.in_ok-chosen.ensures.chosen, why))
    (c.make_of_files.ensures.stopped (g.R.Read.remaining c.chosen_files.new.reader))
