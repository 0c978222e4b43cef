use Rattle.tor_v1.proofs.ProvedLaws.{one_piece, piece_sums-nil, pieces_nil}
use Rattle.tor_v1.proofs.laws.pieces_of_few_bytes.Goals as goal

pub returns : goal.returns
returns c = record { none = pieces_nil; no_sums = piece_sums-nil; one = one_piece }
