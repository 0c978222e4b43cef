use Rattle.std.proofs.Common.{◌≡◌, ℕ, ◌<◌, ◌*◌, drop}
use Rattle.sha1.specs.Sha1.{hash_after}
use Rattle.tor_hashes.specs.steps.Lanes.{five_of}
use Rattle.tor_hashes.proofs.sha1_block.after_blocks.Given as goal

abbrev pub invariant-blocks-2 : goal.invariant-blocks-2
invariant-blocks-2 l = (j : ℕ) → j < 8 → five_of j l.hash ≡ hash_after (drop (l.size * j) l.bytes) l.i
