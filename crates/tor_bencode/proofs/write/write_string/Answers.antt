use Rattle.tor_bencode.proofs.Names.{length, arith, common_steps}
use Rattle.tor_bencode.proofs.Numerals.{base_ten-decimal}
use Rattle.tor_bencode.proofs.write.write_string.Goals as goal

pub returns : goal.returns
returns c =
    let size =
    c.type_inv.bytes in rw (base_ten-decimal (length c.args.bytes.now) (omega arith)) (grind (arith, common_steps))
