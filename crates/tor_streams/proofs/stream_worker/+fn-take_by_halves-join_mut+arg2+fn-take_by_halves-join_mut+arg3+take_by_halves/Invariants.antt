use Rattle.std.proofs.Common.{◌+◌, ◌*◌, length}
use Rattle.tor_streams.proofs.stream_worker.+fn-take_by_halves-join_mut+arg2+fn-take_by_halves-join_mut+arg3+take_by_halves.Given as goal

abbrev pub decreases-join_mut+arg2 : goal.decreases-join_mut+arg2
decreases-join_mut+arg2 g l = 2 * length l.front.now + 1

abbrev pub decreases-join_mut+arg3 : goal.decreases-join_mut+arg3
decreases-join_mut+arg3 g l = 2 * length l.back.now + 1

abbrev pub decreases-take_by_halves : goal.decreases-take_by_halves
decreases-take_by_halves g l = 2 * length l.workers.now
