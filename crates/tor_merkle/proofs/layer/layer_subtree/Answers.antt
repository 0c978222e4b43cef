-- 2^height subtrees of the level fit below the top, and sixteen hashes have a tree of four levels
use Rattle.tor_merkle.proofs.Names.{◌≡◌, ◌+◌, ◌-◌, ◌*◌, ◌^◌, ◌≤◌, arith, ap, ap₂, ◌∙◌, le_trans, pow-add}
use Rattle.tor_merkle.proofs.Names.{padded_subtree}
use Rattle.std.proofs.Math.Pow.{pow_mono}
use Rattle.tor_merkle.proofs.BinaryDigits.{power_within}
use Rattle.tor_merkle.proofs.EightNodes.{root_over_eight}
use Rattle.tor_merkle.proofs.layer.layer_subtree.Goals as goal

pub stack_of-requires-clause-small : goal.stack_of-requires-clause-small
stack_of-requires-clause-small c =
    let low : c.args.height ≤ 36 - c.args.level = omega arith in
    le_trans c.requires.wide (pow_mono low)

pub overflow_sub-above : goal.overflow_sub-above
overflow_sub-above c =
    omega (arith, power_within 4 c.args.height (omega (arith, c.requires.wide)))

pub first_eight-nodes-requires-clause-wide : goal.first_eight-nodes-requires-clause-wide
first_eight-nodes-requires-clause-wide c =
    let high = power_within 4 c.args.height (omega (arith, c.requires.wide)) in
    let split : 2 ^ c.args.height ≡ 8 * 2 ^ (c.args.height - 3) =
    ap (λ k. 2 ^ k) (let same : c.args.height ≡ 3 + (c.args.height - 3) = omega arith in same)
    ∙ pow-add 2 3 (c.args.height - 3) in
    omega (arith, split, c.requires.wide)

pub stack_of-requires-2-clause-small : goal.stack_of-requires-2-clause-small
stack_of-requires-2-clause-small c =
    let high = power_within 4 c.args.height (omega (arith, c.requires.wide)) in
    let room : 2 ^ 3 ≤ 2 ^ (36 - (c.args.level + (c.args.height - 3))) =
    pow_mono {i = 3} {j = 36 - (c.args.level + (c.args.height - 3))} (omega arith) in
    omega (arith, room, c.first_eight-nodes.ensures.eight)

pub subtree-requires-2-clause-low : goal.subtree-requires-2-clause-low
subtree-requires-2-clause-low c =
    let high = power_within 4 c.args.height (omega (arith, c.requires.wide)) in
    omega (arith, c.stack_of-2.ensures.level)

pub returns : goal.returns
returns c =
    let level = c.args.level in
    let hashes = c.args.hashes.now in
    let high = power_within 4 c.args.height (omega (arith, c.requires.wide)) in
    let height : 3 + (c.args.height - 3) ≡ c.args.height = omega arith in
    c.subtree-2.ensures
    ∙ ap₂ (padded_subtree 3) c.stack_of-2.ensures.level c.stack_of-2.ensures.hashes
    ∙ root_over_eight level hashes (c.args.height - 3) c.first_eight-nodes.result
    c.first_eight-nodes.ensures.eight c.first_eight-nodes.ensures.nodes (rw height c.requires.wide)
    ∙ ap (λ k. padded_subtree k level hashes) height
