-- What `strip_prefix` gives is what comes after.
use Rattle.std.proofs.lemmas.Bool.Decides.{Decides-eqb}
use Rattle.std.proofs.lemmas.Slice.Eq.{strip_prefix_is}
use Rattle.tor_cli.proofs.Lines.{after-written, after-read}
use Rattle.tor_cli.proofs.text.fronts.after.Goals as goal

pub returns-clause-written : goal.returns-clause-written
returns-clause-written c =
    after-written c.args.beginning.now c.args.text.now c.strip_prefix.result
    (strip_prefix_is Decides-eqb c.args.text.now c.args.beginning.now c.strip_prefix.result
    c.strip_prefix.ensures.cases)

pub returns-clause-read : goal.returns-clause-read
returns-clause-read c rest =
    after-read c.args.beginning.now c.args.text.now rest c.strip_prefix.result
    (strip_prefix_is Decides-eqb c.args.text.now c.args.beginning.now c.strip_prefix.result
    c.strip_prefix.ensures.cases)
