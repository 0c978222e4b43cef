-- what the readers so far gave was cut
use Rattle.std.proofs.Common.{◌≡◌, ◌≤◌, ◌++◌, ◌^◌, ℕ, List, length, map}
use Rattle.std.specs.List.{AllByRecursion}
use Rattle.std.specs.Vec.Iter.{into_iter_items, into_iter_len}
use Rattle.tor_lane.specs.Lane.{FeedsLaneOf}
use Rattle.tor_streams.specs.Streams.{GiveContents}
use Rattle.tor_streams.specs.steps.Cuts.{IsReady}
use Rattle.tor_streams.proofs.read_streams.read_each.Given as goal

abbrev pub invariant-readers : goal.invariant-readers
invariant-readers g l = record {
  items : l.yielded ++ into_iter_items l.reader-iterator ≡ l.fn.readers.items;
  left : into_iter_len l.reader-iterator ≡ length (into_iter_items l.reader-iterator);
  contents : List (List ℕ);
  given : GiveContents (map g.R.Read.remaining l.yielded) contents;
  small : AllByRecursion (λ content. length content ≤ 2 ^ 50) contents;
  counted : map length contents ≡ l.lengths.items;
  cut : IsReady l.chunking contents l.cutter;
  lane : FeedsLaneOf l.fn.cutter.pairs.feeder l.cutter.pairs.feeder;
}
