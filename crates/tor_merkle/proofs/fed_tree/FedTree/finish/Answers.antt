-- root and layer of the tree over all leaves
use Rattle.tor_merkle.proofs.Names.{◌^◌, [], cond, leb, length, arith, ap, sym, ◌∙◌, nodes, padded_root}
use Rattle.tor_merkle.proofs.Names.{pieces_root, piece_layer}
use Rattle.tor_merkle.proofs.Ceil.{ceil_from_below}
use Rattle.tor_merkle.proofs.Content.{count-pieces, length-leaves}
use Rattle.tor_merkle.proofs.Sums.{padded_root-leaves, nodes-piece_layer}
use Rattle.tor_merkle.proofs.fed_tree.FedTree.finish.Goals as goal

pub finish-requires-clause-some : goal.finish-requires-clause-some
finish-requires-clause-some c =
    let bytes = c.self.inside.fed.items in
    rw (c.self.invariant.whole, length-leaves bytes)
    (ceil_from_below (length bytes) 16384 0 (omega arith) (omega (arith, c.self.invariant.counted)))

pub finish-requires-clause-room : goal.finish-requires-clause-room
finish-requires-clause-room c =
    let tree = c.self.inside.tree in
    rw (c.self.invariant.whole, ← count-pieces c.self.inside.fed.items tree.height, ← c.self.invariant.piece)
    c.self.invariant.reserved

pub returns-clause-root : goal.returns-clause-root
returns-clause-root c =
    c.finish.ensures.root ∙ ap (padded_root 0) c.self.invariant.whole
    ∙ padded_root-leaves c.self.inside.fed.items ∙ ap (λ v. pieces_root v.bytes) c.self.view_is

pub returns-clause-layer : goal.returns-clause-layer
returns-clause-layer c =
    let t = c.self.inside in
    c.finish.ensures.layer
    ∙ ap (λ xs. cond (leb (length xs) (2 ^ t.tree.height)) [] (nodes 0 xs t.tree.height)) c.self.invariant.whole
    ∙ nodes-piece_layer t.fed.items t.tree.height ∙ ap (piece_layer t.fed.items) (sym c.self.invariant.piece)
    ∙ ap (λ v. piece_layer v.bytes v.piece_length) c.self.view_is
