-- the letters of one more file, and of all of them
use Rattle.std.proofs.Common.{◌∙◌, ap}
use Rattle.std.proofs.lemmas.List.{take_all}
use Rattle.tor_meta.proofs.ListSteps.{made_more}
use Rattle.tor_meta.proofs.from_streams.attrs_of.Goals as goal

pub loop-attr-preserved : goal.loop-attr-preserved
loop-attr-preserved c =
    c.in_ok-push.ensures.items
    ∙ made_more (λ file. file.1) c.args.files.now c.loop-attr.attr-index c.loop-attr-item.result
    c.loop-attr.attrs.items c.loop-attr-item.result.1 c.loop-attr-test.true c.loop-attr.invariant
    (ap (λ file. file.1) c.loop-attr-item.is)

pub returns : goal.returns
returns c = rw (take_all c.loop-attr.attr-index c.args.files.now c.loop-attr-test.false) at c.loop-attr.invariant
