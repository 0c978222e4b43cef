-- the letters at one more index, and at all of them
use Rattle.std.proofs.Common.{◌∙◌}
use Rattle.std.proofs.lemmas.List.{take_all}
use Rattle.tor_meta.specs.Make.{letters_at}
use Rattle.tor_meta.proofs.ListSteps.{made_more}
use Rattle.tor_meta.proofs.source_listing.attrs_at.Goals as goal

pub loop-index-preserved : goal.loop-index-preserved
loop-index-preserved c =
    c.in_ok-push.ensures.items
    ∙ made_more (letters_at c.args.files.now) c.args.indices.now c.loop-index.index-index _ c.loop-index.attrs.items
    c.letters_at.result c.loop-index-test.true c.loop-index.invariant c.letters_at.ensures

pub returns : goal.returns
returns c =
    rw (take_all c.loop-index.index-index c.args.indices.now c.loop-index-test.false) at c.loop-index.invariant
