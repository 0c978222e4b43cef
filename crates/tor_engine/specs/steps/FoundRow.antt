-- What is found of pieces that stand one after another. Only private clauses cite this.
use Rattle.std.specs.Prelude.{Bool, true, false, List, replicate}
use Rattle.tor_engine.specs.declared.pieces.found_row.Row.{Row}
use Rattle.tor_engine.specs.declared.pieces.found_row.Row.TheVariants.{AllMissing, Each}
use Rattle.tor_engine.specs.declared.pieces.piece_hash.FoundPiece.{FoundPiece}
use Rattle.tor_engine.specs.declared.pieces.piece_hash.FoundPiece.TheVariants.{Missing}

abbrev pub is_missing : FoundPiece → Bool
is_missing Missing = true
is_missing _ = false

-- one after another
abbrev pub found_in : Row → List FoundPiece
found_in (AllMissing count) = replicate count Missing
found_in (Each found) = found.value.items
