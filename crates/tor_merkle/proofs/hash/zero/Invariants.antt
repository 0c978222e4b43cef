-- after i steps the hash is that of a subtree of level i
use Rattle.tor_merkle.proofs.Names.{◌≡◌, zero_subtree}
use Rattle.tor_merkle.proofs.hash.zero.Given as goal

abbrev pub invariant-loop-below : goal.invariant-loop-below
invariant-loop-below l = l.hash ≡ zero_subtree l._below
