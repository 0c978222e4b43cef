use Rattle.tor_merkle.proofs.eight.+first_eight.Given as goal

abbrev pub decreases-first_eight : goal.decreases-first_eight
decreases-first_eight l = l.above
