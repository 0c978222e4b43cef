-- a whole piece of zeros has one sum
use Rattle.std.proofs.Common.{◌/◌, ℕ, [], length, ap, subst, sym, ◌∙◌}
use Rattle.std.specs.List.{slice_get}
use Rattle.std.specs.Simd.{first_chunks}
use Rattle.tor_tree.specs.Kinds.{has_v2}
use Rattle.tor_v1.specs.Feeding.{HasFed}
use Rattle.tor_v1.specs.Piece.{zeros}
use Rattle.tor_sums.proofs.FileHashes.{some_piece}
use Rattle.tor_engine.proofs.OnePiece.{padding_is}
use Rattle.tor_engine.proofs.pieces.padding_sum.Goals as goal

pub returns : goal.returns
returns c =
    let plan = c.args.plan.now in
    let planned = c.units.ensures.planned in
    let both = padding_is c.length_of_sums.ensures plan c.finish-joined.result.items c.copied.result
    (some_piece plan.kind plan.piece_length planned.pieces)
    (ap has_v2 (sym c.kind.ensures) ∙ sym c.has_v2.ensures ∙ c.if-has_v2.false)
    (c.finish-joined.ensures plan.piece_length (zeros plan.piece_length)
    (subst (λ (n : ℕ). HasFed c.feed_zeros.new.pieces plan.piece_length (zeros n)) c.piece_length-3.ensures
    (c.in_ok-feed_zeros.ensures.fed plan.piece_length []
    (subst (λ (n : ℕ). HasFed c.new-sums.result n []) c.piece_length-2.ensures c.new-sums.ensures))))
    ((c.copied.ensures ∙ c.first.ensures.value)
    ∙ ap (λ xs. slice_get xs 0)
    (c.as_chunks.ensures.front ∙ ap (λ xs. first_chunks 20 (length xs / 20) xs) c.deref.ensures.value)) in
    (both.0, λ may. both.1)
