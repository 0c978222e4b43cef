-- the sums are those of all that was taken
use Rattle.std.proofs.Common.{[], ◌∙◌}
use Rattle.tor_tree.specs.declared.kinds.Kind.TheVariants.{V1}
use Rattle.tor_sums.proofs.owing_pieces.OwingPieces.finish.Goals as goal

pub returns : goal.returns
returns c = λ p owed owes. c.finish.ensures V1 p [] owes.joined owes.taken ∙ owes.is_owed
