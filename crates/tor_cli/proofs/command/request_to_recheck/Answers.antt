-- No part was asked for.
use Rattle.std.proofs.Common.{◌∙◌, ap, codes, option_map, sym, Bor, List, ℕ}
use Rattle.clap.specs.Words.{found_of}
use Rattle.clap.proofs.WalkLemmas.{first_value-rows}
use Rattle.tor_cli.proofs.command.request_to_recheck.Goals as goal

pub request_of_whole-requires-clause-whole : goal.request_of_whole-requires-clause-whole
request_of_whole-requires-clause-whole g c =
    sym (first_value-rows (found_of c.args.recheck.now) (codes "part")) ∙ sym c.get_str.ensures
    ∙ ap (option_map (λ (s : Bor (List ℕ)). s.now)) c.in-None.is
