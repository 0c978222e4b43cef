-- one taker more
use Rattle.std.proofs.Common.{◌≡◌, ◌++◌, ◌∷◌, [], None, List, length, arith, ap, sym, subst, ◌∙◌}
use Rattle.std.proofs.Common.{append_assoc, append-nil, length-append}
use Rattle.std.specs.List.{AllByRecursion}
use Rattle.std.specs.Vec.Iter.{into_iter_items}
use Rattle.std.proofs.lemmas.List.{nil_from_length}
use Rattle.tor_lane.specs.Lane.{IsTakerOf, taken_by}
use Rattle.tor_lane.specs.declared.taker.Taker.{Taker}
use Rattle.tor_lane.specs.declared.chunk.Chunk.{Chunk}
use Rattle.tor_streams.specs.steps.OwedChunks.{AreOwed}
use Rattle.tor_streams.specs.steps.StreamWorkers.{IsWorkerOf}
use Rattle.tor_streams.proofs.OwedChunks.{owed_none}
use Rattle.tor_streams.proofs.StreamWorkers.{all_back, all_front, all_joined}
use Rattle.tor_streams.proofs.stream_worker.stream_workers.Goals as goal

pub takers-preserved : goal.takers-preserved
takers-preserved c =
    let before = c.takers.invariant in
    let taker = c.in-Some.taker in
    let steps = c.in-Some.ensures.steps in
    let push = c.in_ok-push.ensures.items in record {
      items = append_assoc c.takers.yielded (taker ∷ []) _
          ∙ ap (λ xs. c.takers.yielded ++ xs) (sym steps.0) ∙ before.items;
      left = let was = before.left in let gone = steps.1 in let short = ap length steps.0 in omega arith;
      all = ap length push ∙ length-append c.takers.workers.items _
          ∙ omega (arith, before.all, length-append c.takers.yielded (taker ∷ []));
      each = λ chunking feeder all.
          let P : Taker → Type 0 = λ t. IsTakerOf feeder t × (taken_by t ≡ []) in
          let one = (all_back P c.takers.yielded (taker ∷ []) all).0 in
          subst (λ ws. AllByRecursion (IsWorkerOf chunking feeder) ws) (sym push)
          (all_joined (IsWorkerOf chunking feeder) c.takers.workers.items _
          (before.each chunking feeder (all_front P c.takers.yielded (taker ∷ []) all)) (
            record {
              taker = one.0;
              sums = λ _.
                  subst (λ (taken : List Chunk). AreOwed chunking taken c.new.result.items None) (sym one.1)
                  (owed_none chunking c.new.result.items c.new.ensures.items);
            },
            tt,
          ));
    }

pub returns-clause-workers : goal.returns-clause-workers
returns-clause-workers c = λ chunking feeder all.
    let before = c.takers.invariant in
    let empty : into_iter_items c.takers.taker-iterator ≡ [] =
    nil_from_length _ (sym before.left ∙ c.in-None.ensures.steps.0) in
    let whole : c.takers.yielded ≡ c.args.takers.items =
    sym (append-nil c.takers.yielded) ∙ ap (λ xs. c.takers.yielded ++ xs) (sym empty) ∙ before.items in
    before.each chunking feeder
    (subst (λ ts. AllByRecursion (λ t. IsTakerOf feeder t × (taken_by t ≡ [])) ts) (sym whole) all)

pub returns-clause-all : goal.returns-clause-all
returns-clause-all c =
    let before = c.takers.invariant in
    let empty : into_iter_items c.takers.taker-iterator ≡ [] =
    nil_from_length _ (sym before.left ∙ c.in-None.ensures.steps.0) in
    let whole : c.takers.yielded ≡ c.args.takers.items =
    sym (append-nil c.takers.yielded) ∙ ap (λ xs. c.takers.yielded ++ xs) (sym empty) ∙ before.items in
    c.takers.workers.ok.0 ∙ before.all ∙ ap length whole ∙ sym c.args.takers.ok.0
