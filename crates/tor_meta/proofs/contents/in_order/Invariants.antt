use Rattle.std.proofs.Common.{◌≡◌, take}
use Rattle.tor_meta.specs.steps.Contents.{bytes_of, contents_at}
use Rattle.tor_meta.proofs.contents.in_order.Given as goal

abbrev pub invariant-loop-index : goal.invariant-loop-index
invariant-loop-index l = bytes_of l.ordered.items ≡ contents_at l.contents (take l.index-index l.indices)
