-- one piece, or the last of more
use Rattle.tor_merkle.proofs.Names.{◌^◌, [], ◌∷◌, ◌++◌, length, arith, refl, ap, ap₂, ◌∙◌, sym, cond-true, cond-false}
use Rattle.tor_merkle.proofs.Names.{lt-leb, le-leb, false≢true, nodes, padded_root, padded_subtree}
use Rattle.tor_merkle.proofs.Filled.{padded_root-nodes}
use Rattle.tor_merkle.proofs.Keeps.{ends_piece, only_piece, pieces_more, pieces_all}
use Rattle.std.proofs.lemmas.Grind.{common_steps}
use Rattle.tor_merkle.proofs.pieces.PieceTree.finish.Goals as goal

pub returns-then-is_empty-clause-root : goal.returns-then-is_empty-clause-root
returns-then-is_empty-clause-root c =
    let t = c.self.inside in
    let one =
    only_piece t.height t.leaves.items t.blocks t.pieces t.layer.items c.self.invariant
    (c.if-is_empty.ensures.0 refl) in
    c.root.ensures ∙ ap₂ padded_root c.self.invariant.block_level one.0
    ∙ ap (λ v. padded_root 0 v.leaves) c.self.view_is

pub returns-then-is_empty-clause-layer : goal.returns-then-is_empty-clause-layer
returns-then-is_empty-clause-layer c =
    let t = c.self.inside in
    let none = c.if-is_empty.ensures.0 refl in
    let one = only_piece t.height t.leaves.items t.blocks t.pieces t.layer.items c.self.invariant none in
    c.self.invariant.listed ∙ none ∙ sym (cond-true _ [] _ (le-leb (length c.args.self.leaves) (2 ^ c.args.self.height)
    (omega (arith, one.1, ap (λ v. length v.leaves) c.self.view_is, ap (λ v. 2 ^ v.height) c.self.view_is))))

pub close_piece-requires : goal.close_piece-requires
close_piece-requires c =
    let t = c.self.inside in
    ends_piece t.height t.leaves.items t.blocks t.pieces t.layer.items c.self.invariant _ _
    (omega (arith, t.layer.ok.0))
    (rw (← c.self.view_is) at c.requires.some) (rw (← c.self.view_is) at c.requires.room)

pub returns-clause-root : goal.returns-clause-root
returns-clause-root c =
    let t = c.self.inside in
    let some = rw (← c.self.view_is) at c.requires.some in
    let more =
    pieces_more t.height t.leaves.items t.blocks t.pieces t.layer.items c.self.invariant
    (λ e. false≢true (c.if-is_empty.ensures.1 e)) in
    c.root-2.ensures
    ∙ ap₂ padded_root c.close_piece.ensures.closed.piece_level
    (c.close_piece.ensures.closed.stacked
    ∙ pieces_all t.height t.leaves.items t.blocks t.pieces t.layer.items c.self.invariant some)
    ∙ padded_root-nodes t.leaves.items t.height more
    ∙ ap (λ v. padded_root 0 v.leaves) c.self.view_is

pub returns-clause-layer : goal.returns-clause-layer
returns-clause-layer c =
    let t = c.self.inside in
    let some = rw (← c.self.view_is) at c.requires.some in
    let more =
    pieces_more t.height t.leaves.items t.blocks t.pieces t.layer.items c.self.invariant
    (λ e. false≢true (c.if-is_empty.ensures.1 e)) in
    c.close_piece.ensures.closed.listed
    ∙ ap (λ xs. xs ++ padded_subtree t.height 0 t.blocks.hashes ∷ []) c.self.invariant.listed
    ∙ pieces_all t.height t.leaves.items t.blocks t.pieces t.layer.items c.self.invariant some
    ∙ ap (λ v. nodes 0 v.leaves v.height) c.self.view_is
    ∙ sym (cond-false _ [] _ (lt-leb (length c.args.self.leaves) (2 ^ c.args.self.height)
    (omega (arith, more, ap (λ v. length v.leaves) c.self.view_is, ap (λ v. 2 ^ v.height) c.self.view_is))))

pub root-requires : goal.root-requires
root-requires c = grind (arith, common_steps)

pub root-requires-2 : goal.root-requires-2
root-requires-2 c = grind (arith, common_steps)
