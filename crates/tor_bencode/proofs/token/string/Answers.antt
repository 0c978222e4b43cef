use Rattle.tor_bencode.proofs.Names.{arith, is_ascii_digit, prefix_len-le-length}
use Rattle.tor_bencode.proofs.token.string.Goals as goal

pub split_at-requires : goal.split_at-requires
split_at-requires c = omega (arith, prefix_len-le-length is_ascii_digit c.args.bytes.now)
