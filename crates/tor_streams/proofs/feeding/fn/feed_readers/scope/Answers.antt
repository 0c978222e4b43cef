-- the workers end at their marks
use Rattle.std.proofs.Common.{map, sym, subst}
use Rattle.tor_lane.specs.declared.feeder.Feeder.{Feeder}
use Rattle.tor_streams.specs.declared.chunking.Chunking.{Chunking}
use Rattle.tor_streams.specs.declared.feeding.Workers.{Workers}
use Rattle.tor_streams.specs.Streams.{GiveContents, IsFaultOfReaders}
use Rattle.tor_streams.specs.steps.StreamWorkers.{AreDone}
use Rattle.tor_streams.proofs.StreamWorkers.{took_done}
use Rattle.tor_streams.proofs.FedLanes.{fed_by_readers, is_fed}
use Rattle.tor_streams.proofs.feeding.fn.feed_readers.scope.Goals as goal

pub spawn_with-requires-clause-keeps : goal.spawn_with-requires-clause-keeps
spawn_with-requires-clause-keeps g c κs within = λ r took.
    subst (λ (q : Chunking × Feeder). AreDone q.0 q.1 r.items) (sym c.of-promise.ensures)
    (took_done _ _ _ _ c.requires.4 took)

pub returns-in-Ok : goal.returns-in-Ok
returns-in-Ok g c =
    let chunking = c.captures.chunking in
    let known = map g.R.Read.remaining c.captures.readers.items in
    let read = c.read_each-read.ensures in
    let end = c.end_and_wait.ensures in
    let first = c.refusals_first.ensures in
    let done = subst (λ (q : Chunking × Feeder). AreDone q.0 q.1 c.end_and_wait.result.workers.items)
    c.of-promise.ensures
    (subst (λ (q : Workers). AreDone q.chunking q.feeder.value c.end_and_wait.result.workers.items)
    c.in-Ok.ensures.ok end.done) in
    let is = is_fed chunking (GiveContents known) (IsFaultOfReaders known) c.captures.cutter.pairs.feeder
    c.read_each-read.new.cutter.pairs.feeder _ c.end_and_wait.result read.lane.0 end.lane end.ended end.put end.read done
    read.put read.fault in
    fed_by_readers chunking known c.end_and_wait.result c.refusals_first.result is first.refused first.read
    first.lane.0 first.lane.1
