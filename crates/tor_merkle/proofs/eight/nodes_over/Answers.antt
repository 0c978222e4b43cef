-- each node is the hash of the text of its children
use Rattle.tor_merkle.proofs.Names.{rules, ◌≡◌, ℕ, ◌+◌, ◌*◌, List, [], ◌∷◌, length, get_or, arith, refl, ap, ◌∙◌}
use Rattle.tor_merkle.proofs.Names.{sha256, node_of}
use Rattle.tor_merkle.proofs.EightNodes.{below_four, below_eight, hashes_of_texts}
use Rattle.tor_merkle.proofs.eight.nodes_over.Goals as goal

pub returns : goal.returns
unfolding node_of
returns c =
    let left = c.args.left.now in
    let right = c.args.right.now in
    let nodes = c.node_hashes.result in
    let texts : List (List ℕ) =
    c.node_bytes.result ∷ c.node_bytes-2.result ∷ c.node_bytes-3.result ∷ c.node_bytes-4.result
    ∷ c.node_bytes-5.result ∷ c.node_bytes-6.result ∷ c.node_bytes-7.result ∷ c.node_bytes-8.result ∷ [] in
    let long =
    below_eight (λ i. length (get_or texts i []) ≡ 64) c.node_bytes.ensures.long c.node_bytes-2.ensures.long
    c.node_bytes-3.ensures.long c.node_bytes-4.ensures.long c.node_bytes-5.ensures.long c.node_bytes-6.ensures.long
    c.node_bytes-7.ensures.long c.node_bytes-8.ensures.long in
    let hashed = hashes_of_texts texts nodes _ refl long c.as_flattened.ensures.value c.node_hashes.ensures in
    record {
      eight = search rules;
      first =
          below_four (λ i. get_or nodes i [] ≡ node_of (get_or left (2 * i) []) (get_or left (2 * i + 1) []))
          (hashed 0 (omega arith) ∙ ap sha256 c.node_bytes.ensures.bytes)
          (hashed 1 (omega arith) ∙ ap sha256 c.node_bytes-2.ensures.bytes)
          (hashed 2 (omega arith) ∙ ap sha256 c.node_bytes-3.ensures.bytes)
          (hashed 3 (omega arith) ∙ ap sha256 c.node_bytes-4.ensures.bytes);
      last =
          below_four (λ i. get_or nodes (4 + i) [] ≡ node_of (get_or right (2 * i) []) (get_or right (2 * i + 1) []))
          (hashed 4 (omega arith) ∙ ap sha256 c.node_bytes-5.ensures.bytes)
          (hashed 5 (omega arith) ∙ ap sha256 c.node_bytes-6.ensures.bytes)
          (hashed 6 (omega arith) ∙ ap sha256 c.node_bytes-7.ensures.bytes)
          (hashed 7 (omega arith) ∙ ap sha256 c.node_bytes-8.ensures.bytes);
    }
