-- the bytes fed and the rest are what has to be fed in all
use Rattle.tor_merkle.proofs.Names.{◌≡◌, ◌≤◌, ◌++◌, length}
use Rattle.tor_merkle.proofs.blocks.BlockHasher.feed.Given as goal

abbrev pub invariant-parts : goal.invariant-parts
invariant-parts l = record {
  all : l.self.bytes ++ l.rest ≡ l.initial.self.bytes ++ l.initial.rest;
  height : l.self.height ≡ l.initial.self.height;
  capacity : l.initial.self.capacity ≤ l.self.capacity;
}

abbrev pub decreases-parts : goal.decreases-parts
decreases-parts l = length l.rest
