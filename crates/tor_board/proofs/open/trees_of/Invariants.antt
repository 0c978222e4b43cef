-- the trees so far, and those of the runs that are left
use Rattle.tor_board.{proofs.Names.{drop, units_in, ◌++◌, ◌+◌, ◌≡◌}, specs.steps.Row.trees_from}
use Rattle.tor_board.proofs.open.trees_of.Given as goal

abbrev pub invariant-runs : goal.invariant-runs
invariant-runs l = record {
  trees : l.trees.items ++ trees_from l.number l.offset (drop l.run-index l.runs) ≡ trees_from 0 0 l.runs;
  units_in_trees : l.offset + units_in (drop l.run-index l.runs) ≡ units_in l.runs;
  counted : l.number ≡ l.run-index;
}
