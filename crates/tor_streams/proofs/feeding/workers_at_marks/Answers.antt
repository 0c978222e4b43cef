-- what was lent as a slice comes back whole
use Rattle.std.proofs.Common.{List, subst, sym}
use Rattle.tor_streams.specs.declared.stream_worker.StreamWorker.{StreamWorker}
use Rattle.tor_streams.specs.steps.StreamWorkers.{TookAll}
use Rattle.tor_sums.proofs.WholeSlice.{written_whole}
use Rattle.tor_streams.proofs.feeding.workers_at_marks.Goals as goal

pub returns : goal.returns
returns g c =
    let chunking = c.args.chunking in
    let old = c.args.workers in
    let took = subst (λ (ws : List StreamWorker). TookAll chunking ws c.take_by_halves.new.workers)
    c.as_mut_slice.ensures.value c.take_by_halves.ensures in
    subst (TookAll chunking old.items)
    (sym (written_whole old.items c.take_by_halves.new.workers old.len took.all old.ok.0)) took
