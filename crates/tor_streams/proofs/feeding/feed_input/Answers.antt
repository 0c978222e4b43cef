-- the workers end at their marks
use Rattle.std.proofs.Common.{sym, subst}
use Rattle.tor_lane.specs.declared.feeder.Feeder.{Feeder}
use Rattle.tor_streams.specs.declared.chunking.Chunking.{Chunking}
use Rattle.tor_streams.specs.declared.feeding.Workers.{Workers}
use Rattle.tor_streams.specs.steps.Fed.{GivesInput, StopsInput}
use Rattle.tor_streams.specs.steps.StreamWorkers.{AreDone}
use Rattle.tor_streams.proofs.StreamWorkers.{took_done}
use Rattle.tor_streams.proofs.FedLanes.{is_fed}
use Rattle.tor_streams.proofs.feeding.feed_input.Goals as goal

pub spawn_with-requires-clause-keeps : goal.spawn_with-requires-clause-keeps
spawn_with-requires-clause-keeps g c κs within = λ r took.
    subst (λ (q : Chunking × Feeder). AreDone q.0 q.1 r.items) (sym c.of-promise.ensures)
    (took_done _ _ _ _ c.in_ok-cutter.ensures.workers took)

pub returns-in-Ok-clause-fed : goal.returns-in-Ok-clause-fed
returns-in-Ok-clause-fed g c =
    let old = g.R.Read.remaining c.args.reader.now in
    let new = g.R.Read.remaining c.read_input-read.new.reader in
    let read = c.read_input-read.ensures in
    let end = c.end_and_wait.ensures in
    let done = subst (λ (q : Chunking × Feeder). AreDone q.0 q.1 c.end_and_wait.result.workers.items)
    c.of-promise.ensures
    (subst (λ (q : Workers). AreDone q.chunking q.feeder.value c.end_and_wait.result.workers.items)
    c.in-Ok.ensures.ok end.done) in
    is_fed c.args.chunking (GivesInput old new) (StopsInput old new) c.in_ok-cutter.cutter.pairs.feeder
    c.read_input-read.new.cutter.pairs.feeder _ c.end_and_wait.result read.lane.0 end.lane end.ended end.put end.read done
    read.put read.stopped
