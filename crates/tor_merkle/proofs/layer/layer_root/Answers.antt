-- the height of a tree over at most 2 ^ (36 - level) hashes
use Rattle.tor_merkle.proofs.Names.{◌-◌, length, arith, ap, ◌∙◌, pow_mono, le_trans, padded_root, padded_subtree}
use Rattle.tor_merkle.proofs.Height.{height_least, height_covers}
use Rattle.tor_merkle.proofs.layer.layer_root.Goals as goal

pub height_of-requires : goal.height_of-requires
height_of-requires c = le_trans c.requires.small (pow_mono {i = 36 - c.args.level} {j = 36} (omega arith))

pub layer_subtree-requires-clause-wide : goal.layer_subtree-requires-clause-wide
layer_subtree-requires-clause-wide c = rw c.height_of.ensures (height_covers (length c.args.hashes.now))

pub layer_subtree-requires-clause-low : goal.layer_subtree-requires-clause-low
layer_subtree-requires-clause-low c =
    let least = height_least (length c.args.hashes.now) (36 - c.args.level) c.requires.small in
    omega (arith, c.height_of.ensures, least)

pub returns : goal.returns
unfolding padded_root
returns c =
    c.layer_subtree.ensures ∙ ap (λ k. padded_subtree k c.args.level c.args.hashes.now) c.height_of.ensures
