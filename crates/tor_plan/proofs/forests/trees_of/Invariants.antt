use Rattle.tor_plan.proofs.Names.{◌≡◌, ◌++◌, drop, take, sum_by, div_ceil, trees_from}
use Rattle.tor_plan.proofs.forests.trees_of.Given as goal

abbrev pub invariant-files : goal.invariant-files
invariant-files l = record {
  counted : l.first ≡ sum_by (λ m. div_ceil m l.size) (take l.length-index l.lengths);
  all : l.trees.items ++ trees_from l.size l.first (drop l.length-index l.lengths) ≡ trees_from l.size 0 l.lengths;
}
