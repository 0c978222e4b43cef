use Rattle.std.proofs.Common.{◌≡◌, ℕ, List, ◌*◌, drop, take, ap, ◌∙◌, arith, refl}
use Rattle.std.proofs.lemmas.List.{drop-drop}
use Rattle.sha1.specs.Sha1.{hash_after}
use Rattle.sha1.proofs.Absorbing.{hash_after_next}
use Rattle.tor_hashes.specs.steps.Lanes.{block_of}
use Rattle.tor_hashes.proofs.sha1_block.after_blocks.Goals as goal

pub blocks-2-init : goal.blocks-2-init
unfolding hash_after
blocks-2-init c j lt = c.initial-hash.ensures j lt

pub blocks-2-preserved : goal.blocks-2-preserved
blocks-2-preserved c j lt =
    let i = c.blocks-2.i in
    let b = c.args.bytes.now in
    let size = c.args.size in
    let m : List ℕ = drop (size * j) b in
    let at : i * 64 ≡ 64 * i = omega arith in
    let block : take 64 (drop (i * 64) m) ≡ block_of b size (64 * i) j =
    rw at (ap (take 64) (drop-drop (64 * i) (size * j) b)) in
    c.after_block-next.ensures j (block_of b size (64 * i) j) lt (c.words_of_blocks-words.ensures j lt lt)
    ∙ rw (c.blocks-2.invariant j lt, hash_after_next m i, block) refl
