-- the root over a tree of as many blocks as the bytes need
use Rattle.std.proofs.Common.{◌≤◌, ◌-◌, ◌^◌, ℕ, List, arith, ap, ap₂, ◌∙◌, ◌∷◌, [], pow_pos}
use Rattle.std.proofs.Math.Nat.{pow-le-pow_right}
use Rattle.tor_merkle.specs.Stack.{padded_subtree}
use Rattle.tor_merkle.specs.Subtree.{height}
use Rattle.tor_streams.proofs.WidenedRoots.{above_low, count_widened, few_leaves}
use Rattle.tor_streams.proofs.stream_sums.widened_root.Goals as goal

pub height_of-height-requires : goal.height_of-height-requires
height_of-height-requires c =
    let few = few_leaves c.args.count c.args.level c.requires.some c.requires.level c.requires.room in
    let up : 2 ^ c.args.level ≤ 2 ^ 16 = pow-le-pow_right (omega arith) c.requires.level in
    omega (arith, c.div_ceil.ensures, few, up)

pub overflow_sub-level : goal.overflow_sub-level
overflow_sub-level c =
    let low = above_low c.args.count c.args.level c.requires.some c.requires.level c.requires.room in
    let is = c.height_of-height.ensures ∙ ap height c.div_ceil.ensures in
    omega (arith, low, is)

pub layer_subtree-requires-clause-wide : goal.layer_subtree-requires-clause-wide
layer_subtree-requires-clause-wide c = omega (arith, pow_pos (c.args.level - c.height_of-height.result))

pub layer_subtree-requires-clause-low : goal.layer_subtree-requires-clause-low
layer_subtree-requires-clause-low c =
    let low = above_low c.args.count c.args.level c.requires.some c.requires.level c.requires.room in
    let is = c.height_of-height.ensures ∙ ap height c.div_ceil.ensures in
    omega (arith, low, is, c.requires.level)

pub returns : goal.returns
returns c = λ content counted root.
    let is = c.height_of-height.ensures ∙ ap height c.div_ceil.ensures in
    c.layer_subtree.ensures
    ∙ ap₂ (λ (n : ℕ) (r : List ℕ). padded_subtree (c.args.level - n) n (r ∷ [])) is root
    ∙ count_widened c.args.count c.args.level c.requires.some c.requires.level c.requires.room content counted
