-- the starts so far, and those of the trees that are left
use Rattle.tor_board.proofs.Names.{drop, map, start_of, ◌++◌, ◌≡◌}
use Rattle.tor_board.proofs.open.starts_of.Given as goal

abbrev pub invariant-trees : goal.invariant-trees
invariant-trees l = l.starts.items ++ map start_of (drop l.tree-index l.trees) ≡ map start_of l.trees
