-- the top is the last node of the level
use Rattle.tor_merkle.proofs.Root.{IsLastNode}
use Rattle.tor_merkle.proofs.stack.Stack.subtree.Given as goal

abbrev pub invariant-climb : goal.invariant-climb
invariant-climb l = IsLastNode l.self-inside.level l.self-inside.count l.self-inside.pushed.items l.digit l.index l.top
