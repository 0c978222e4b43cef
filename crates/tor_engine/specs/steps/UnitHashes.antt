-- The hashes of the pieces of units. Only private clauses cite this.
use Rattle.std.specs.Prelude.{List, Option, map}
use Rattle.tor_engine.specs.declared.pieces.piece_hash.PieceHash.{PieceHash}
use Rattle.tor_engine.specs.declared.pieces.piece_work.UnitPieces.{UnitPieces}
use Rattle.tor_engine.specs.steps.Pieces.{hashes_in}

abbrev pub hashes_of_unit : UnitPieces → List (Option PieceHash)
hashes_of_unit unit = map hashes_in unit.pieces
