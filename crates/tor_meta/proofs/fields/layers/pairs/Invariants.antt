-- The pairs so far, and those of the entries that are left.
use Rattle.std.proofs.Common.{◌≡◌}
use Rattle.tor_bencode.specs.View.{pairs_view}
use Rattle.tor_meta.specs.steps.Layers.{pairs_of_map}
use Rattle.tor_meta.proofs.fields.layers.pairs.Given as goal

abbrev pub invariant-loop-root : goal.invariant-loop-root
invariant-loop-root l = pairs_view l.pairs.items ≡ pairs_of_map l.yielded
