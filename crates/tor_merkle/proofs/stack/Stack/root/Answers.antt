-- the height of the tree over at most 2 ^ (36 - level) hashes
use Rattle.tor_merkle.proofs.Names.{◌-◌, length, arith, ap, ◌∙◌, pow_mono, le_trans, padded_root, padded_subtree}
use Rattle.tor_merkle.proofs.Names.{height}
use Rattle.tor_merkle.proofs.Height.{height_least, height_covers}
use Rattle.tor_merkle.proofs.stack.Stack.root.Goals as goal

pub height_of-requires : goal.height_of-requires
height_of-requires c = le_trans c.self.invariant.small (pow_mono {i = 36 - c.self.inside.level} {j = 36} (omega arith))

pub subtree-requires-clause-wide : goal.subtree-requires-clause-wide
subtree-requires-clause-wide c =
    let count = c.self.invariant.counted ∙ ap (λ v. length v.hashes) c.self.view_is in
    rw (c.height_of.ensures, count) (height_covers (length c.args.self.now.hashes))

pub subtree-requires-clause-low : goal.subtree-requires-clause-low
subtree-requires-clause-low c =
    let least = height_least c.self.inside.count (36 - c.self.inside.level) c.self.invariant.small in
    omega (arith, c.self.invariant.low, ap (λ v. v.level) c.self.view_is, c.height_of.ensures, least)

pub returns : goal.returns
unfolding padded_root
returns c =
    let count = c.self.invariant.counted ∙ ap (λ v. length v.hashes) c.self.view_is in
    c.subtree.ensures
    ∙ ap (λ k. padded_subtree k c.args.self.now.level c.args.self.now.hashes) (c.height_of.ensures ∙ ap height count)
