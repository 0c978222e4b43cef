-- one worker more
use Rattle.std.proofs.Common.{◌≡◌, ◌++◌, ◌∷◌, [], length, map, arith, ap, sym, subst, ◌∙◌}
use Rattle.std.proofs.Common.{append_assoc, append-nil, length-append}
use Rattle.std.specs.List.{AllByRecursion, flat_map}
use Rattle.std.specs.Vec.Iter.{into_iter_items}
use Rattle.std.proofs.lemmas.Grind.{flat_map-append}
use Rattle.std.proofs.lemmas.List.{map-append, nil_from_length}
use Rattle.std.proofs.lemmas.List.Elements.{All-from_recursion}
use Rattle.tor_lane.specs.Lane.{IsAtMark, IsTakerOf, taken_by}
use Rattle.tor_streams.specs.steps.Cuts.{facts_of_chunk}
use Rattle.tor_streams.specs.steps.StreamWorkers.{IsDoneOf}
use Rattle.tor_streams.proofs.StreamWorkers.{all_back, all_front, all_joined}
use Rattle.tor_streams.proofs.stream_worker.takers_and_sums.Goals as goal

-- the worker is one of those that are done
pub settle_chunks-requires : goal.settle_chunks-requires
settle_chunks-requires c =
    let given = c.requires in
    let P = IsDoneOf given.0 given.1 in
    let worker = c.in-Some.worker in
    let yielded = c.workers.yielded in
    let rest = ap (λ xs. yielded ++ xs) (sym c.in-Some.ensures.steps.0) ∙ c.workers.invariant.items in
    let all = subst (λ ws. AllByRecursion P ws) (sym rest) given.2.each in
    (given.0, taken_by worker.taker, (all_back P yielded (worker ∷ _) all).0.is.sums c.if-is_refused.false)

pub workers-preserved : goal.workers-preserved
workers-preserved c =
    let before = c.workers.invariant in
    let worker = c.in-Some.worker in
    let steps = c.in-Some.ensures.steps in
    let push = c.in_ok-push.ensures.items in record {
      items = append_assoc c.workers.yielded (worker ∷ []) _
          ∙ ap (λ xs. c.workers.yielded ++ xs) (sym steps.0) ∙ before.items;
      left = let was = before.left in let gone = steps.1 in let short = ap length steps.0 in omega arith;
      count = ap length push ∙ length-append c.workers.takers.items _
          ∙ omega (arith, before.count, length-append c.workers.yielded (worker ∷ []));
      done = λ chunking feeder all.
          let P = IsDoneOf chunking feeder in
          let one = (all_back P c.workers.yielded (worker ∷ []) all).0 in
          let rest = before.done chunking feeder (all_front P c.workers.yielded (worker ∷ []) all) in
          let F = facts_of_chunk chunking in
          let takers = c.workers.takers.items in (
            subst (λ ts. AllByRecursion (λ t. IsTakerOf feeder t × IsAtMark t) ts) (sym push)
                (all_joined (λ t. IsTakerOf feeder t × IsAtMark t) takers (worker.taker ∷ []) rest.0
                ((one.is.taker, one.mark), tt)),
            c.in_ok-settle_chunks.ensures chunking (taken_by worker.taker) (one.is.sums c.if-is_refused.false)
                ∙ ap (λ xs. xs ++ map F (taken_by worker.taker)) rest.1
                ∙ sym (map-append F (flat_map taken_by takers) (taken_by worker.taker))
                ∙ ap (map F) (ap (λ xs. flat_map taken_by takers ++ xs) (sym (append-nil (taken_by worker.taker)))
                ∙ sym (flat_map-append taken_by takers (worker.taker ∷ [])) ∙ ap (flat_map taken_by) (sym push)),
          );
    }

pub returns : goal.returns
returns c = λ chunking feeder are.
    let before = c.workers.invariant in
    let empty : into_iter_items c.workers.worker-iterator ≡ [] =
    nil_from_length _ (sym before.left ∙ c.in-None.ensures.steps.0) in
    let whole : c.workers.yielded ≡ c.args.workers.items =
    sym (append-nil c.workers.yielded) ∙ ap (λ xs. c.workers.yielded ++ xs) (sym empty) ∙ before.items in
    let done = before.done chunking feeder
    (subst (λ ws. AllByRecursion (IsDoneOf chunking feeder) ws) (sym whole) are.each) in
    record {
      each = All-from_recursion _ _ done.0;
      all = before.count ∙ ap length whole ∙ are.all;
      summed = done.1;
    }
