use Rattle.std.proofs.Common.{arith, sym, ◌∙◌}
use Rattle.tor_source.proofs.Parted.{same_more}
use Rattle.tor_source.proofs.folder.named.common.Goals as goal

pub loop-index-preserved : goal.loop-index-preserved
loop-index-preserved c =
    same_more c.args.one.now c.args.other.now c.loop-index.index c.index-one-index.result c.index-other-index.result
    (omega (arith, c.loop-index-test.true, c.min-most.ensures))
    (omega (arith, c.loop-index-test.true, c.min-most.ensures))
    c.loop-index.invariant c.index-one-index.is c.index-other-index.is (sym c.ne.ensures ∙ c.if-ne.false)
