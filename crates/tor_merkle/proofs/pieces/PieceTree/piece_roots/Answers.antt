-- the last piece is closed, where there is one
use Rattle.tor_merkle.proofs.Names.{[], ◌∷◌, ◌++◌, arith, refl, ap, ◌∙◌, false≢true, nodes, padded_subtree}
use Rattle.tor_merkle.proofs.Keeps.{some_leaf, ends_piece, no_piece, pieces_all}
use Rattle.tor_merkle.proofs.pieces.PieceTree.piece_roots.Goals as goal

pub close_piece-requires : goal.close_piece-requires
close_piece-requires c =
    let t = c.self.inside in
    ends_piece t.height t.leaves.items t.blocks t.pieces t.layer.items c.self.invariant _ _
    (omega (arith, t.layer.ok.0))
    (some_leaf t.height t.leaves.items t.blocks t.pieces t.layer.items c.self.invariant
    (λ e. false≢true (c.if-not-is_empty.ensures.1 e)))
    (rw (← c.self.view_is) at c.requires)

pub returns-then-not-is_empty : goal.returns-then-not-is_empty
returns-then-not-is_empty c =
    let t = c.self.inside in
    let some =
    some_leaf t.height t.leaves.items t.blocks t.pieces t.layer.items c.self.invariant
    (λ e. false≢true (c.if-not-is_empty.ensures.1 e)) in
    c.close_piece.ensures.closed.listed
    ∙ ap (λ xs. xs ++ padded_subtree t.height 0 t.blocks.hashes ∷ []) c.self.invariant.listed
    ∙ pieces_all t.height t.leaves.items t.blocks t.pieces t.layer.items c.self.invariant some
    ∙ ap (λ v. nodes 0 v.leaves v.height) c.self.view_is

pub returns-else-not-is_empty : goal.returns-else-not-is_empty
returns-else-not-is_empty c =
    let t = c.self.inside in
    no_piece t.height t.leaves.items t.blocks t.pieces t.layer.items c.self.invariant (c.if-not-is_empty.ensures.0 refl)
    ∙ ap (λ v. nodes 0 v.leaves v.height) c.self.view_is
