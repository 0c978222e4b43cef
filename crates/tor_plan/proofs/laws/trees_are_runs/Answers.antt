use Rattle.tor_plan.proofs.ProvedLaws.{trees_are_runs}
use Rattle.tor_plan.proofs.laws.trees_are_runs.Goals as goal

pub returns : goal.returns
returns c = trees_are_runs
