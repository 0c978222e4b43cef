use Rattle.tor_recheck.proofs.DealtLots.{bits_dealt, bytes_dealt, counts_dealt}
use Rattle.tor_recheck.proofs.laws.lots_have_each_piece.Goals as goal

pub returns : goal.returns
returns c = record { bits = bits_dealt; bytes = bytes_dealt; counts = counts_dealt }
