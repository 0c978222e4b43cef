use Rattle.tor_meta.proofs.Pushed.{map_pushed}
use Rattle.tor_meta.proofs.fields.layers.pairs.Goals as goal

pub loop-root-preserved : goal.loop-root-preserved
loop-root-preserved c =
    rw c.in_ok-push.ensures.items
    (map_pushed c.loop-root.pairs.items c.loop-root.yielded (c.in_ok-root.root, c.string.result) c.in-Some.root
    c.in-Some.layer c.loop-root.invariant c.in_ok-root.ensures.items c.string.ensures)
