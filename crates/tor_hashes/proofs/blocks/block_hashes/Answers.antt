use Rattle.std.proofs.Common.{◌*◌, drop, arith, length-drop}
use Rattle.tor_hashes.proofs.blocks.block_hashes.Goals as goal

pub returns : goal.returns
returns c j lt = c.block_digests.ensures j (drop (16384 * j) c.args.blocks.now) lt
    (omega (arith, length-drop (16384 * j) c.args.blocks.now, c.requires))
    (c.after_blocks-hash.ensures j lt lt)
