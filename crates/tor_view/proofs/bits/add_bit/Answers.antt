-- each part of what one more bit is, alone
use Rattle.tor_view.proofs.Names.{arith}
use Rattle.std.proofs.lemmas.Grind.{common_steps}
use Rattle.tor_view.proofs.bits.add_bit.Goals as goal

pub returns-then-bit-clause-ok : goal.returns-then-bit-clause-ok
returns-then-bit-clause-ok c = record {
  sized = grind (arith, common_steps);
  here = grind (arith, common_steps);
  others = λ piece other. grind (arith, common_steps);
  small = grind (arith, common_steps);
}

pub returns-else-bit-clause-ok : goal.returns-else-bit-clause-ok
returns-else-bit-clause-ok c = record {
  sized = grind (arith, common_steps);
  here = grind (arith, common_steps);
  others = λ piece other. grind (arith, common_steps);
  small = grind (arith, common_steps);
}
