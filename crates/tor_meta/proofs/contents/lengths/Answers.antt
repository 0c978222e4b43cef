-- the length of one more content, and of all of them
use Rattle.std.proofs.Common.{◌∙◌, ap, length}
use Rattle.std.proofs.lemmas.List.{take_all}
use Rattle.tor_meta.proofs.ListSteps.{made_more}
use Rattle.tor_meta.proofs.contents.lengths.Goals as goal

pub loop-content-preserved : goal.loop-content-preserved
loop-content-preserved c =
    c.in_ok-push.ensures.items
    ∙ made_more (λ content. length content.items) c.args.contents.now c.loop-content.content-index
    c.content-item.result c.loop-content.lengths.items c.len.result c.loop-content-test.true c.loop-content.invariant
    (c.len.ensures ∙ c.content-item.result.ok.0 ∙ ap (λ content. length content.items) c.content-item.is)

pub returns : goal.returns
returns c =
    rw (take_all c.loop-content.content-index c.args.contents.now c.loop-content-test.false) at c.loop-content.invariant
