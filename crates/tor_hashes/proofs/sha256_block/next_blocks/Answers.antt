use Rattle.std.proofs.Common.{◌≡◌, ℕ, List, ◌*◌, drop, take, ap, ◌∙◌, arith, refl}
use Rattle.std.proofs.lemmas.List.{drop-drop}
use Rattle.sha2.proofs.Absorbing256.{hash_after_next}
use Rattle.tor_hashes.specs.steps.Lanes.{block_of}
use Rattle.tor_hashes.proofs.sha256_block.next_blocks.Goals as goal

pub blocks-2-init : goal.blocks-2-init
blocks-2-init c initial j lane some before = before

pub blocks-2-preserved : goal.blocks-2-preserved
blocks-2-preserved c initial j lane some before =
    let i = c.blocks-2.i in
    let b = c.args.bytes.now in
    let size = c.args.size in
    let m : List ℕ = drop (size * j) b in
    let at : i * 64 ≡ 64 * i = omega arith in
    let block : take 64 (drop (i * 64) m) ≡ block_of b size (64 * i) j =
    rw at (ap (take 64) (drop-drop (64 * i) (size * j) b)) in
    c.after_block-next.ensures j (block_of b size (64 * i) j) lane (c.words_of_blocks-words.ensures j lane some)
    ∙ rw (c.blocks-2.invariant initial j lane some before, hash_after_next initial m i, block) refl
