use Rattle.tor_view.proofs.Packed.{packed_bit_same, packed_bit_other, small_with_bit}
use Rattle.tor_view.proofs.bits.set_bit.Goals as goal

pub returns-clause-here : goal.returns-clause-here
returns-clause-here c = packed_bit_same c.args.bytes.now c.args.piece c.requires.within

pub returns-clause-others : goal.returns-clause-others
returns-clause-others c = λ i other. packed_bit_other c.args.bytes.now c.args.piece i c.requires.within other

pub returns-clause-small : goal.returns-clause-small
returns-clause-small c = small_with_bit c.args.bytes.now c.args.piece c.requires.within c.requires.small
