use Rattle.tor_merkle.proofs.ProvedLaws.{subtree_over_pieces}
use Rattle.tor_merkle.proofs.laws.subtrees_over_pieces.Goals as goal

pub returns : goal.returns
returns c = subtree_over_pieces
