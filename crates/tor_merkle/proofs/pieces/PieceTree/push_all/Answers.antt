-- each leaf is one of those for whose pieces there is room
use Rattle.std.proofs.lemmas.Grind.{common_steps}
use Rattle.tor_merkle.proofs.Names.{◌+◌, ◌^◌, length, arith, ap, le_trans, pow_pos, length-append, length-take}
use Rattle.tor_merkle.proofs.Ceil.{ceil_mono}
use Rattle.tor_merkle.proofs.pieces.PieceTree.push_all.Goals as goal

pub push-requires-clause-room : goal.push-requires-clause-room
push-requires-clause-room c =
    let now = c.args.self.now in
    let all = simp (length-append, length-take) at (ap length c.leaves.invariant.all) in
    rw c.leaves.invariant.height
    (le_trans
    (ceil_mono (length c.leaves.self.leaves) (length now.leaves + length c.args.leaves.now) (2 ^ now.height)
    (pow_pos now.height) (omega (arith, all, c.told-leaves)))
    (le_trans c.requires.room c.leaves.invariant.capacity))

pub push-requires-clause-small : goal.push-requires-clause-small
push-requires-clause-small c = grind (arith, common_steps)

pub leaves-preserved : goal.leaves-preserved
leaves-preserved c = grind (arith, common_steps)

pub returns-clause-leaves : goal.returns-clause-leaves
returns-clause-leaves c = grind (arith, common_steps)
