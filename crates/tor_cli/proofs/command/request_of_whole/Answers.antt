-- The flag says which of both is asked for.
use Rattle.std.proofs.Common.{◌∙◌, codes, sym}
use Rattle.clap.specs.Words.{found_of}
use Rattle.tor_cli.proofs.FoundTexts.{found_flag}
use Rattle.tor_cli.proofs.command.request_of_whole.Goals as goal

pub recheck_options-requires-clause-pieces : goal.recheck_options-requires-clause-pieces
recheck_options-requires-clause-pieces g c = λ given is.
    sym (found_flag (found_of c.args.recheck.now) (codes "extra") c.get_flag.result given c.get_flag.ensures.value
    c.get_flag.ensures.other is) ∙ c.if-get_flag.false

pub extra_options-requires-clause-extra : goal.extra_options-requires-clause-extra
extra_options-requires-clause-extra g c = λ given is.
    sym (found_flag (found_of c.args.recheck.now) (codes "extra") c.get_flag.result given c.get_flag.ensures.value
    c.get_flag.ensures.other is) ∙ c.if-get_flag.true
