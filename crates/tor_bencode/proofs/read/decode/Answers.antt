use Rattle.tor_bencode.proofs.Names.{ref_view}
use Rattle.tor_bencode.proofs.Spelled.{takes_memory}
use Rattle.tor_bencode.proofs.read.decode.Goals as goal

pub returns-in-Ok-clause-memory : goal.returns-in-Ok-clause-memory
returns-in-Ok-clause-memory c =
    λ _. takes_memory c.args.bytes.now (ref_view c.in-Ok.item) c.in-Ok.ensures.item.1 c.in-Err-own.ensures.memory
