use Rattle.std.proofs.Common.{length, rules}
use Rattle.tor_board.proofs.ProvedLaws.{rising_runs_are_apart}
use Rattle.tor_plan.specs.Forest.{AreRuns}
use Rattle.tor_tests_low.proofs.engine.board.tells_the_fourth.Goals as goal

pub open-requires-clause-runs : goal.open-requires-clause-runs
open-requires-clause-runs g c =
    let rising : AreRuns (length c.units.result.now) 0 c.forest.result.now.trees.items = search rules in
    rising_runs_are_apart (length c.units.result.now) 0 c.forest.result.now.trees.items rising
