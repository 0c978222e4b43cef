-- the layer as it is, or the root widened to a piece
use Rattle.std.proofs.Common.{◌≤◌, ◌*◌, ◌^◌, ◌∷◌, [], arith, ap, sym, ◌∙◌, subst, ℕ}
use Rattle.tor_merkle.specs.Block.{leaves}
use Rattle.tor_merkle.specs.Stack.{padded_subtree}
use Rattle.tor_merkle.proofs.ProvedLaws.{layer_of_long_content, root_of_short_content}
use Rattle.tor_sums.proofs.Levels.{piece_at_level}
use Rattle.tor_streams.proofs.stream_sums.layer_of_chunk.Goals as goal

pub widened_root-root-requires-clause-room : goal.widened_root-root-requires-clause-room
widened_root-root-requires-clause-room c =
    subst (λ (k : ℕ). c.args.count ≤ 16384 * 2 ^ k) (sym c.piece_level.ensures.value)
    (omega (arith, c.if-count-piece_length.false, piece_at_level c.args.piece_length c.requires.pieces))

pub widened_root-root-requires-clause-some : goal.widened_root-root-requires-clause-some
widened_root-root-requires-clause-some c = c.requires.one.1.some

pub returns-then-count-piece_length : goal.returns-then-count-piece_length
returns-then-count-piece_length c = λ run is.
    c.in_ok-layer.ensures.items ∙ c.deref.ensures.value ∙ ap (λ n. n.1) is.node
    ∙ layer_of_long_content run c.args.piece_length (omega (arith, c.if-count-piece_length.true, is.counted))

pub returns : goal.returns
returns c = λ run is.
    c.in_ok-vec.ensures.items
    ∙ ap (λ h. h ∷ []) (c.widened_root-root.ensures run is.counted (ap (λ n. n.0) is.node)
    ∙ ap (λ k. padded_subtree k 0 (leaves run)) c.piece_level.ensures.value)
    ∙ sym (root_of_short_content run c.args.piece_length c.requires.pieces (omega (arith, is.some, is.counted))
    (omega (arith, c.if-count-piece_length.false, is.counted)))
