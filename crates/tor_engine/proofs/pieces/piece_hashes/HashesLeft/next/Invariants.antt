-- what is left is of these units, and nothing was written yet
use Rattle.std.proofs.Common.{◌≡◌, drop, length}
use Rattle.std.specs.List.{flat_map}
use Rattle.tor_engine.specs.steps.UnitHashes.{hashes_of_unit}
use Rattle.tor_engine.proofs.pieces.piece_hashes.HashesLeft.next.Given as goal

abbrev pub decreases-loop-unit : goal.decreases-loop-unit
decreases-loop-unit l = length l.units

abbrev pub invariant-loop-unit : goal.invariant-loop-unit
invariant-loop-unit l = record {
  left : drop l.taken (flat_map hashes_of_unit l.units)
      ≡ drop l.initial.self-inside.taken (flat_map hashes_of_unit l.initial.self-inside.units.now);
  same : l.self-inside ≡ l.initial.self-inside;
}
