use Rattle.std.proofs.Common.{◌*◌, ◌<◌, ◌≤◌, drop, length, arith, length-drop}
use Rattle.sha2.specs.Sha256.{initial_hash_256}
use Rattle.tor_hashes.proofs.last_blocks.earlier_hashes.Goals as goal

pub returns : goal.returns
returns c i lt =
    let lane : i < 8 = omega (arith, lt, c.requires.few) in
    let room : 16384 ≤ length (drop (16384 * i) c.args.blocks.now) =
    omega (arith, lt, c.requires.whole, length-drop (16384 * i) c.args.blocks.now) in
    c.block_digests.ensures i (drop (16384 * i) c.args.blocks.now) lane room
    (c.next_blocks-hash.ensures initial_hash_256 i lane lt (c.requires.hash i lt))
