-- what was taken is what was put, and is put in order
use Rattle.std.proofs.Common.{◌≡◌, List, ap, sym, subst, rules, ◌∙◌}
use Rattle.std.specs.List.{flat_map}
use Rattle.tor_lane.specs.Lane.{put_by, taken_by}
use Rattle.tor_sums.specs.declared.unit_sums.UnitSums.{UnitSums}
use Rattle.tor_streams.specs.steps.ChunkNodes.{SumUpCuts}
use Rattle.tor_streams.proofs.SortedUnits.{sum_up_cuts}
use Rattle.tor_streams.proofs.fed_sums.sums_of_taken.Goals as goal

pub sums_of_chunks-requires-clause-chunks : goal.sums_of_chunks-requires-clause-chunks
sums_of_chunks-requires-clause-chunks c =
    let put = c.requires.put in (
      put.0,
      subst (λ (sums : List UnitSums). SumUpCuts c.args.chunking put.0 c.args.lengths.items sums)
          (sym c.deref.ensures.value)
          (sum_up_cuts c.args.chunking put.0 c.args.lengths.items (put_by c.args.feeder)
          (flat_map taken_by c.args.takers.items) c.args.sums.items c.put_in_order-sums.result.items put.1
          c.settle.ensures c.requires.parted.summed c.put_in_order-sums.ensures.same
          (c.put_in_order-sums.ensures.placed (λ (one : UnitSums). one.unit)
          (λ one n called.
          let met = called.says.met in
          let own : n ≡ called.shown.now.unit = search rules in
          own ∙ ap (λ (sums : UnitSums). sums.unit) called.shows))),
    )

pub returns : goal.returns
returns c = λ contents puts.
    c.sums_of_chunks.ensures contents
    (subst (λ (sums : List UnitSums). SumUpCuts c.args.chunking contents c.args.lengths.items sums)
    (sym c.deref.ensures.value)
    (sum_up_cuts c.args.chunking contents c.args.lengths.items (put_by c.args.feeder)
    (flat_map taken_by c.args.takers.items) c.args.sums.items c.put_in_order-sums.result.items puts
    c.settle.ensures c.requires.parted.summed c.put_in_order-sums.ensures.same
    (c.put_in_order-sums.ensures.placed (λ (one : UnitSums). one.unit)
    (λ one n called.
    let met = called.says.met in
    let own : n ≡ called.shown.now.unit = search rules in
    own ∙ ap (λ (sums : UnitSums). sums.unit) called.shows))))
