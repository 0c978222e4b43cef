-- the sums so far were put
use Rattle.std.proofs.Common.{◌≡◌, ◌++◌, length, map}
use Rattle.std.specs.Vec.Iter.{into_iter_items, into_iter_len}
use Rattle.tor_streams.specs.steps.OwedChunks.{sums_in}
use Rattle.tor_streams.proofs.owed_chunks.push_sums.Given as goal

abbrev pub invariant-sums : goal.invariant-sums
invariant-sums l = record {
  items : l.yielded ++ into_iter_items l.one-iterator ≡ l.fn.sums.items;
  left : into_iter_len l.one-iterator ≡ length (into_iter_items l.one-iterator);
  put : l.all.items ≡ l.initial.all.items ++ map sums_in l.yielded;
}
