-- Root and layer over the leaves are those of the content.
use Rattle.tor_merkle.proofs.Names.{◌≡◌, ℕ, ◌*◌, ◌^◌, List, [], cond, length, leb, ◌∙◌, sym, inl, inr, cases_lt}
use Rattle.tor_merkle.proofs.Names.{cond-true, cond-false, lt-leb, le-leb, leaves, pieces_root, piece_layer, nodes}
use Rattle.tor_merkle.proofs.Names.{padded_root, height}
use Rattle.tor_merkle.proofs.Climb.{piece_layer-nodes, piece_layer-none}
use Rattle.tor_merkle.proofs.Content.{longer_than_piece, pieces_root-node, within_piece}
use Rattle.tor_merkle.proofs.Height.{height_covers}
use Rattle.tor_merkle.proofs.Node.{subtree_root-padded}

pub padded_root-leaves : (content : List ℕ) → padded_root 0 (leaves content) ≡ pieces_root content
unfolding padded_root
padded_root-leaves content =
    let top = height (length (leaves content)) in
    subtree_root-padded 0 (leaves content) top (height_covers (length (leaves content)))
    ∙ sym (pieces_root-node content)

pub nodes-piece_layer : (content : List ℕ) (k : ℕ)
    → cond (leb (length (leaves content)) (2 ^ k)) [] (nodes 0 (leaves content) k) ≡ piece_layer content (16384 * 2 ^ k)
nodes-piece_layer content k = elim (cases_lt (16384 * 2 ^ k) (length content)) [
  | inl more ↦
      cond-false _ [] _ (lt-leb (length (leaves content)) (2 ^ k) (longer_than_piece content k more))
      ∙ sym (piece_layer-nodes content k more)
  | inr less ↦
      cond-true _ [] _ (le-leb (length (leaves content)) (2 ^ k) (within_piece content k less))
      ∙ sym (piece_layer-none content (16384 * 2 ^ k) less)
]
