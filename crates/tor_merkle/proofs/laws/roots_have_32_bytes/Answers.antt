use Rattle.tor_merkle.proofs.ProvedLaws.{piece_roots_have_32_bytes, root_has_32_bytes}
use Rattle.tor_merkle.proofs.laws.roots_have_32_bytes.Goals as goal

pub returns : goal.returns
returns c = record { content = root_has_32_bytes; pieces = piece_roots_have_32_bytes }
