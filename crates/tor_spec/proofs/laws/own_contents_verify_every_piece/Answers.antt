use Rattle.tor_spec.proofs.ProvedLaws.{own_contents_verify_every_piece}
use Rattle.tor_spec.proofs.laws.own_contents_verify_every_piece.Goals as goal

pub returns : goal.returns
returns c = own_contents_verify_every_piece
