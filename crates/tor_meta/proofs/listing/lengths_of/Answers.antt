-- the length of one more file, and of all of them
use Rattle.std.proofs.Common.{◌∙◌, ap}
use Rattle.std.proofs.lemmas.List.{take_all}
use Rattle.tor_meta.proofs.ListSteps.{made_more}
use Rattle.tor_meta.proofs.listing.lengths_of.Goals as goal

pub files-preserved : goal.files-preserved
files-preserved c =
    c.in_ok-push.ensures.items
    ∙ made_more (λ file. file.1) c.args.files.now c.files.length-index c.files-item.result
    c.files.lengths.items c.files-item.result.1 c.files-test.true c.files.invariant
    (ap (λ file. file.1) c.files-item.is)

pub returns : goal.returns
returns c = rw (take_all c.files.length-index c.args.files.now c.files-test.false) at c.files.invariant
