use Rattle.std.proofs.Common.{◌+◌, ◌*◌}
use Rattle.tor_bench.proofs.board.+fn-shared-join+arg2+fn-shared-join+arg3+shared.Given as goal

-- half as many workers are left on each side
abbrev pub decreases-join+arg2 : goal.decreases-join+arg2
decreases-join+arg2 g l = 2 * l.fewer + 1

abbrev pub decreases-join+arg3 : goal.decreases-join+arg3
decreases-join+arg3 g l = 2 * l.rest + 1

abbrev pub decreases-shared : goal.decreases-shared
decreases-shared g l = 2 * l.workers
