use Rattle.std.proofs.Common.{ap, arith, rules}
use Rattle.std.proofs.lemmas.Grind.{common_steps}
use Rattle.tor_lane.proofs.Takers.{begins, makes}
use Rattle.tor_lane.proofs.open.lane.Goals as goal

pub bounded_with-requires-clause-rule : goal.bounded_with-requires-clause-rule
bounded_with-requires-clause-rule c = begins

pub another-pass-requires-clause-rule : goal.another-pass-requires-clause-rule
another-pass-requires-clause-rule c = makes _ _ (ap (λ v. v.feeds) c.takers.invariant.1)

-- one fact each is cheaper than all of them together
pub takers-preserved : goal.takers-preserved
takers-preserved c =
    (search rules, search rules, omega arith, omega arith, omega arith, grind (arith, common_steps))
