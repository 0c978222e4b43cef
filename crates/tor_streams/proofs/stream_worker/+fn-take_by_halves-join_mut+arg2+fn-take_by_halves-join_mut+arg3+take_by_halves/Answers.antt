-- one worker, or two halves of them
use Rattle.std.proofs.Common.{◌++◌, List, subst, ap₂, ◌∙◌, rules}
use Rattle.std.proofs.lemmas.List.{length-set, take-append-drop}
use Rattle.tor_streams.specs.declared.stream_worker.StreamWorker.{StreamWorker}
use Rattle.tor_streams.specs.steps.StreamWorkers.{IsDoneOf, IsWorkerOf, TookAll}
use Rattle.tor_streams.proofs.StreamWorkers.{one_set, took_both, took_none}
use Rattle.tor_streams.proofs.stream_worker.+fn-take_by_halves-join_mut+arg2+fn-take_by_halves-join_mut+arg3+take_by_halves.Goals as goal

pub returns-then-workers-eq0 : goal.returns-then-workers-eq0
returns-then-workers-eq0 g n c = took_none c.args.chunking c.args.workers.now c.if-workers-eq0.true

pub returns-then-workers-eq1 : goal.returns-then-workers-eq1
returns-then-workers-eq1 g n c = record {
  done = λ feeder all.
      one_set (IsWorkerOf c.args.chunking feeder) (IsDoneOf c.args.chunking feeder)
      c.args.workers.now c.index-workers-0.result c.take_all.new.self c.if-workers-eq1.true all
      (c.take_all.ensures feeder);
  all = length-set c.args.workers.now 0 c.take_all.new.self;
}

pub returns : goal.returns
returns g n c =
    let chunking = c.args.chunking in
    let front = c.split_at_mut-front.result.0.now in
    let back = c.split_at_mut-front.result.1.now in
    let split = c.split_at_mut-front.ensures in
    let one : TookAll chunking front c.front-1.given.0 = search rules in
    let other : TookAll chunking back c.back-1.given.0 = search rules in
    subst (λ (xs : List StreamWorker). TookAll chunking xs (c.front-1.given.0 ++ c.back-1.given.0))
    (ap₂ (λ xs ys. xs ++ ys) split.front split.back ∙ take-append-drop _ c.args.workers.now)
    (took_both chunking front back c.front-1.given.0 c.back-1.given.0 one other)
