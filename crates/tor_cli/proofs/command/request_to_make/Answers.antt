-- No plan was named.
use Rattle.std.proofs.Common.{◌∙◌, ap, codes, option_map, sym, Bor, List, ℕ}
use Rattle.clap.specs.Words.{found_of}
use Rattle.clap.proofs.WalkLemmas.{first_value-rows}
use Rattle.tor_cli.proofs.command.request_to_make.Goals as goal

pub make_options-requires : goal.make_options-requires
make_options-requires g c =
    sym (first_value-rows (found_of c.args.make.now) (codes "plan")) ∙ sym c.get_str.ensures
    ∙ ap (option_map (λ (s : Bor (List ℕ)). s.now)) c.in-None.is
