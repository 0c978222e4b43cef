-- a bit past the end is not set
use Rattle.tor_view.proofs.Names.{sym}
use Rattle.tor_view.proofs.FileBits.{bit_tested}
use Rattle.tor_view.proofs.file_pieces.is_set.Goals as goal

pub returns : goal.returns
returns c = sym (bit_tested c.args.bits.now c.args.piece c.get.result c.eq.result c.get.ensures c.eq.ensures)
