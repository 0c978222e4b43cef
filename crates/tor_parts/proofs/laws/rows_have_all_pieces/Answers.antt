use Rattle.tor_parts.proofs.ProvedLaws.{rows_have_all_pieces}
use Rattle.tor_parts.proofs.laws.rows_have_all_pieces.Goals as goal

pub returns : goal.returns
returns c = rows_have_all_pieces
