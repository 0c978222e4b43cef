use Rattle.std.proofs.Common.{◌≡◌, ℕ, List, ◌<◌, ◌*◌, drop}
use Rattle.sha2.specs.Sha256.{hash_after}
use Rattle.tor_hashes.specs.steps.Lanes.{eight_of}
use Rattle.tor_hashes.proofs.sha256_block.next_blocks.Given as goal

abbrev pub invariant-blocks-2 : goal.invariant-blocks-2
invariant-blocks-2 l = (initial : List ℕ) (j : ℕ) → j < 8 → j < l.messages
    → eight_of j l.fn.hash ≡ hash_after initial (drop (l.size * j) l.bytes) l.done
    → eight_of j l.hash ≡ hash_after initial (drop (l.size * j) l.bytes) l.i
