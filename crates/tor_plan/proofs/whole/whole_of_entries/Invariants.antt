-- the entries so far, and those that are left
use Rattle.tor_plan.proofs.Names.{◌≡◌, ◌≤◌, drop, joined, whole_from, whole_unit}
use Rattle.tor_plan.proofs.whole.whole_of_entries.Given as goal

abbrev pub invariant-entries : goal.invariant-entries
invariant-entries l = record {
  few : l.index ≤ l.entry-index;
  all : joined l.whole (whole_from l.index (drop l.entry-index l.entries)) ≡ whole_unit l.entries;
}
