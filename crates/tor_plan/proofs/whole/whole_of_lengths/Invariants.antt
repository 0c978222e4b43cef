-- the files so far, and those that are left
use Rattle.tor_plan.proofs.Names.{◌≡◌, ◌≤◌, drop, joined, unnamed, whole_from, whole_unit}
use Rattle.tor_plan.proofs.whole.whole_of_lengths.Given as goal

abbrev pub invariant-files : goal.invariant-files
invariant-files l = record {
  few : l.index ≤ l.length-index;
  all : joined l.whole (whole_from l.index (drop l.length-index (unnamed l.lengths))) ≡ whole_unit (unnamed l.lengths);
}
