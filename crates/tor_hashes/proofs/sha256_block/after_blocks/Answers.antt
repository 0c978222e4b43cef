use Rattle.sha2.specs.Sha256.{hash_after, initial_hash_256}
use Rattle.tor_hashes.proofs.sha256_block.after_blocks.Goals as goal

pub returns : goal.returns
unfolding hash_after
returns c j lane some = c.next_blocks.ensures initial_hash_256 j lane some (c.initial.ensures j lane)
