use Rattle.tor_bencode.proofs.Names.{arith, prefix_len-le-length, is_integer_byte}
use Rattle.tor_bencode.proofs.token.integer.Goals as goal

pub split_at-requires : goal.split_at-requires
split_at-requires c = omega (arith, prefix_len-le-length is_integer_byte c.args.rest.now)
