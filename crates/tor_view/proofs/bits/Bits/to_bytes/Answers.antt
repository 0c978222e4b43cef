use Rattle.tor_view.proofs.Bytes.{packed_is_bitfield}
use Rattle.tor_view.proofs.bits.Bits.to_bytes.Goals as goal

pub returns : goal.returns
returns c =
    let whole = packed_is_bitfield c.self.inside.bytes.items c.self.inside.count c.self.invariant in
    rw (← c.self.view_is, ← whole, ← c.deref.ensures.value) c.from_slice.ensures.items
