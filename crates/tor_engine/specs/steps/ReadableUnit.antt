-- What was found of a unit as far as its bytes can be read. Only private clauses cite this.
use Rattle.std.specs.Prelude.{List, []}
use Rattle.tor_engine.specs.declared.pieces.piece_work.UnitPieces.{UnitPieces}
use Rattle.tor_engine.specs.declared.pieces.read_fault.ReadFault.{ReadFault}
use Rattle.tor_engine.specs.declared.pieces.readable_unit.ReadableUnit.{ReadableUnit}
use Rattle.tor_engine.specs.declared.pieces.readable_unit.ReadableUnit.TheVariants.{Clean, Faulty}

-- what is known of its pieces
abbrev pub unit_found : {F : Type 0} → ReadableUnit F → UnitPieces
unit_found (Clean found) = found
unit_found (Faulty unit) = unit.value.found

-- what of them could not be read
abbrev pub faults_found : {F : Type 0} → ReadableUnit F → List (ReadFault F)
faults_found (Clean found) = []
faults_found (Faulty unit) = unit.value.faults.items
