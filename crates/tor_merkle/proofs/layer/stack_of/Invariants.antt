-- the stack has the hashes so far
use Rattle.tor_merkle.proofs.Names.{◌≡◌, take}
use Rattle.tor_merkle.proofs.layer.stack_of.Given as goal

abbrev pub invariant-pushes : goal.invariant-pushes
invariant-pushes l = record {
  hashes : l.stack.hashes ≡ take l.hash-index l.hashes;
  level : l.stack.level ≡ l.level;
}
