-- the rest of the siblings leads to the same root
use Rattle.tor_merkle.proofs.Names.{◌≡◌, drop, proof_root}
use Rattle.tor_merkle.proofs.judge.root_from.Given as goal

abbrev pub invariant-siblings : goal.invariant-siblings
invariant-siblings l =
    proof_root l.node l.node_index (drop l.sibling-index l.siblings) ≡ proof_root l.hash l.index l.siblings
