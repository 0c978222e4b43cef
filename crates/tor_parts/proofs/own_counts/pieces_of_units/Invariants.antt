-- the pieces of the units so far
use Rattle.std.proofs.Common.{◌≡◌, ◌≤◌, ◌*◌, ◌^◌, take}
use Rattle.tor_parts.specs.LotCounts.{pieces_of_units}
use Rattle.tor_parts.proofs.own_counts.pieces_of_units.Given as goal

abbrev pub invariant-units : goal.invariant-units
invariant-units l = record {
  counted : l.count ≡ pieces_of_units l.piece_length (take l.unit-index l.units);
  small : l.count ≤ l.unit-index * 2 ^ 40;
}
