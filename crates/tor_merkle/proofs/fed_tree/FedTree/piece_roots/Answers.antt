-- the hashes of the pieces of the tree over all leaves
use Rattle.tor_merkle.proofs.Names.{ap, sym, ◌∙◌, nodes, piece_roots}
use Rattle.tor_merkle.proofs.Content.{count-pieces, piece_roots-nodes}
use Rattle.tor_merkle.proofs.fed_tree.FedTree.piece_roots.Goals as goal

pub piece_roots-requires : goal.piece_roots-requires
piece_roots-requires c =
    let tree = c.self.inside.tree in
    rw (c.self.invariant.whole, ← count-pieces c.self.inside.fed.items tree.height, ← c.self.invariant.piece)
    c.self.invariant.reserved

pub returns : goal.returns
returns c =
    let t = c.self.inside in
    c.piece_roots.ensures ∙ ap (λ xs. nodes 0 xs t.tree.height) c.self.invariant.whole
    ∙ sym (piece_roots-nodes t.fed.items t.tree.height) ∙ ap (piece_roots t.fed.items) (sym c.self.invariant.piece)
    ∙ ap (λ v. piece_roots v.bytes v.piece_length) c.self.view_is
