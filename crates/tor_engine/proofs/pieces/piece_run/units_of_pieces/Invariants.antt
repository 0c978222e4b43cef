-- the pieces of the units so far
use Rattle.std.proofs.Common.{◌≡◌, ◌-◌, ◌≤◌, length, take}
use Rattle.std.specs.List.{AllByRecursion}
use Rattle.tor_engine.specs.PieceHashes.{pieces_of_units}
use Rattle.tor_engine.specs.Rows.{units_between}
use Rattle.tor_engine.specs.steps.Pieces.{IsUnitToHash}
use Rattle.tor_engine.proofs.pieces.piece_run.units_of_pieces.Given as goal

abbrev pub invariant-units : goal.invariant-units
invariant-units l = record {
  ordered : l.first ≤ l.after;
  first : l.first ≡ l.from - length (pieces_of_units l.plan.piece_length (take l.unit-index l.unit-items));
  after : l.after ≡ l.to - length (pieces_of_units l.plan.piece_length (take l.unit-index l.unit-items));
  pieces : pieces_of_units l.plan.piece_length l.run.items
      ≡ units_between l.from l.to (pieces_of_units l.plan.piece_length (take l.unit-index l.unit-items));
  units : AllByRecursion (IsUnitToHash l.plan) l.run.items;
}
