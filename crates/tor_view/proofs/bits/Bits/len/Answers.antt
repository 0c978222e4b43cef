use Rattle.tor_view.proofs.Names.{sym}
use Rattle.tor_view.proofs.ReadBack.{length-packed_bits}
use Rattle.tor_view.proofs.bits.Bits.len.Goals as goal

pub returns : goal.returns
returns c = rw (← c.self.view_is) (sym (length-packed_bits c.self.inside.bytes.items c.self.inside.count))
