use Rattle.tor_bencode.proofs.Names.{◌++◌, ap, length, arith, length-append, decimal, codes}
use Rattle.tor_bencode.proofs.Numerals.{base_ten-decimal}
use Rattle.tor_bencode.proofs.spelled_span.length_of_text.Goals as goal

pub returns : goal.returns
returns c =
    let size = c.type_inv.bytes in
    let n = length c.args.bytes.now in
    let text = ap length c.format.ensures.text in
    let a = c.saturating_add.ensures in
    let all = length-append (decimal n ++ codes ":") c.args.bytes.now in
    let front = length-append (decimal n) (codes ":") in
    rw (base_ten-decimal n (omega arith)) (omega (arith, text, a, all, front))
