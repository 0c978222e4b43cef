use Rattle.tor_merkle.specs.declared.TheConstants.{MAX_LENGTH}
use Rattle.tor_meta.proofs.ContentSteps.{contents_small}
use Rattle.tor_meta.proofs.contents.sums_of.Goals as goal

pub sum_trees-requires-clause-small : goal.sum_trees-requires-clause-small
sum_trees-requires-clause-small c =
    contents_small MAX_LENGTH c.args.contents.now c.args.list.now.files c.requires.contents
    (c.files_are_small.ensures c.args.list.now.files c.requires.judged.is_list)
