use Rattle.tor_sums.proofs.OwedSums.{owes_none}
use Rattle.tor_sums.proofs.owing.OwingSums.new.Goals as goal

pub returns-clause-owes : goal.returns-clause-owes
returns-clause-owes c =
    owes_none c.args.plan.now c.requires _ c.new-2.ensures.items c.in_ok-sums.ensures.fresh c.in_ok-sums.ensures.none
