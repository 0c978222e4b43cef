-- one sibling more, and the last
use Rattle.tor_merkle.proofs.Names.{◌+◌, ◌/◌, [], drop, get_or, ap, ◌∙◌, sym, at_drop_more, at_drop_all, proof_root}
use Rattle.tor_merkle.proofs.ProofRoots.{proof_root-none, proof_root-left, proof_root-right}
use Rattle.tor_merkle.proofs.judge.root_from.Goals.{then-node_index-eq0, else-node_index-eq0}
use Rattle.tor_merkle.proofs.judge.root_from.Goals as goal

pub siblings-preserved : goal.siblings-preserved
siblings-preserved c =
    let node = c.siblings.node in
    let node_index = c.siblings.node_index in
    let siblings = c.args.siblings.now in
    let j = c.siblings.sibling-index in
    let rest = drop (j + 1) siblings in
    let before =
    sym (at_drop_more (proof_root node node_index) siblings j [] c.siblings-test.true) ∙ c.siblings.invariant in
    elim c.if-node_index-eq0.branch [
      | then-node_index-eq0 w ↦
          ap (λ x. proof_root x (node_index / 2) rest) (w.node-is ∙ w.pair-node.ensures)
          ∙ sym (proof_root-left node node_index (get_or siblings j []) rest w.if-node_index-eq0.true) ∙ before
      | else-node_index-eq0 w ↦
          ap (λ x. proof_root x (node_index / 2) rest) (w.node-is ∙ w.pair-node-else-node_index-eq0.ensures)
          ∙ sym (proof_root-right node node_index (get_or siblings j []) rest w.if-node_index-eq0.false) ∙ before
    ]

pub returns : goal.returns
returns c =
    sym (proof_root-none c.siblings.node c.siblings.node_index)
    ∙ sym (at_drop_all (proof_root c.siblings.node c.siblings.node_index) c.args.siblings.now c.siblings.sibling-index
    c.siblings-test.false)
    ∙ c.siblings.invariant
