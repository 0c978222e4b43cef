-- a counted reader for each so far
use Rattle.std.proofs.Common.{◌≡◌, ◌++◌, length, map}
use Rattle.std.specs.Vec.Iter.{into_iter_items, into_iter_len}
use Rattle.tor_cli.proofs.make.from_place.counted_readers.Given as goal

abbrev pub invariant-files : goal.invariant-files
invariant-files l = record {
  items : l.yielded ++ into_iter_items l.reader-iterator ≡ l.found.source;
  left : into_iter_len l.reader-iterator ≡ length (into_iter_items l.reader-iterator);
  same : map (λ counted. counted.reader) l.readers.items ≡ l.yielded;
}
