use Rattle.tor_edit.proofs.Names.{arith, common_steps, length}
use Rattle.tor_edit.proofs.Numerals.{base_ten_decimal}
use Rattle.tor_edit.proofs.splice.write_string.Goals as goal

pub returns : goal.returns
returns c =
    let size = c.type_inv.bytes in
    rw (base_ten_decimal (length c.args.bytes.now) (omega arith)) (grind (arith, common_steps))
