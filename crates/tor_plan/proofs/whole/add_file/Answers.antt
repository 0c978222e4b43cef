-- a file without bytes
use Rattle.tor_plan.proofs.Names.{ap, ◌∙◌, sym, le-ltb, cond-false, joined}
use Rattle.tor_plan.proofs.UnitJoins.{then_nothing}
use Rattle.tor_plan.proofs.whole.add_file.Goals as goal

pub returns-else-length-gt0 : goal.returns-else-length-gt0
returns-else-length-gt0 c =
    sym (ap (joined c.args.whole.now) (cond-false _ _ _ (le-ltb 0 c.args.length c.if-length-gt0.false))
    ∙ then_nothing c.args.whole.now)
