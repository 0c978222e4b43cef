-- the node over the roots of pieces is that over the leaves
use Rattle.std.proofs.Common.{◌≡◌, ◌+◌, ◌-◌, ◌*◌, ◌^◌, ◌≤◌, ℕ, length, arith, ap, ap₂, subst, sym, ◌∙◌}
use Rattle.tor_merkle.specs.Block.{leaves}
use Rattle.tor_merkle.specs.Layer.{piece_level, piece_roots}
use Rattle.tor_merkle.specs.Stack.{padded_subtree}
use Rattle.tor_merkle.proofs.ProvedLaws.{count_of_piece_roots, subtree_over_pieces}
use Rattle.tor_sums.proofs.Levels.{few_below, piece_at_level}
use Rattle.tor_sums.proofs.unit_sums.node_over_pieces.Goals as goal

pub layer_subtree-hash-requires-clause-wide : goal.layer_subtree-hash-requires-clause-wide
layer_subtree-hash-requires-clause-wide c =
    let p = c.args.piece_length in
    let bytes = c.requires.room.0 in
    let room = c.requires.room.1 in
    let few = few_below (length bytes) p (piece_level p) c.args.level (piece_at_level p c.requires.pieces) room.0
    room.2 in
    let count = ap length (c.deref.ensures.value ∙ c.requires.room.2) ∙ count_of_piece_roots bytes p in
    subst (λ (j : ℕ). length c.deref.result.now ≤ 2 ^ (c.args.level - j)) (sym c.piece_level-below.ensures.value)
    (omega (arith, few, count))

pub returns : goal.returns
returns c = λ bytes room layer.
    let p = c.args.piece_length in
    let j = piece_level p in
    let k = c.args.level - j in
    let up : k + j ≡ c.args.level = omega (arith, room.0) in
    let fits = subst (λ (n : ℕ). length bytes ≤ 16384 * 2 ^ n) (sym up) room.2 in
    ap₂ (λ hash layer. (hash, layer))
    (c.layer_subtree-hash.ensures
    ∙ ap (λ n. padded_subtree (c.args.level - n) n c.deref.result.now) c.piece_level-below.ensures.value
    ∙ ap (padded_subtree k j) (c.deref.ensures.value ∙ layer
    ∙ ap (piece_roots bytes) (piece_at_level p c.requires.pieces))
    ∙ sym (subtree_over_pieces bytes j k fits) ∙ ap (λ n. padded_subtree n 0 (leaves bytes)) up)
    layer
