-- those of the units so far
use Rattle.std.proofs.Common.{◌≡◌}
use Rattle.std.specs.List.{flat_map}
use Rattle.tor_engine.specs.steps.UnitHashes.{hashes_of_unit}
use Rattle.tor_engine.specs.steps.Readable.{unit_hashes_in}
use Rattle.tor_engine.specs.steps.ReadableUnit.{faults_found}
use Rattle.tor_engine.proofs.pieces.readable.join_units.Given as goal

abbrev pub invariant-units : goal.invariant-units
invariant-units g l = record {
  hashes : flat_map hashes_of_unit l.found.items ≡ flat_map unit_hashes_in l.yielded;
  faults : l.faults.items ≡ flat_map faults_found l.yielded;
}
