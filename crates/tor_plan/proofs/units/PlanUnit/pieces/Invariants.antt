-- so many parts were added, with the zeros after them
use Rattle.tor_plan.proofs.Names.{◌≡◌, ◌+◌, sum_by, take, HasCut}
use Rattle.tor_plan.proofs.UnitJoins.{part_length}
use Rattle.tor_plan.proofs.units.PlanUnit.pieces.Given as goal

abbrev pub invariant-parts : goal.invariant-parts
invariant-parts l = record {
  size : l.cut.size ≡ l.piece_length;
  cut : HasCut l.cut l.self (l.self.zeros + sum_by part_length (take l.part-index l.self.parts));
}
