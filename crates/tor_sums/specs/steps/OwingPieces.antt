-- What is owed to units in memory: the sums of their pieces. Only clauses of the crates that hash cite these.
use Rattle.std.specs.Prelude.{◌≡◌, ◌*◌, ℕ, List, [], length}
use Rattle.tor_tree.specs.declared.kinds.Kind.TheVariants.{V1}
use Rattle.tor_v1.specs.Piece.{piece_sums}
use Rattle.tor_sums.specs.declared.owing_pieces.OwingPieces.{OwingPieces}
use Rattle.tor_sums.specs.steps.Worker.{CanFinish, HasTaken}

-- these sums are owed, for which there is room: those of whole pieces that were taken
pub record OwesPieces (piece_length : ℕ) (owed : List ℕ) (owing : OwingPieces) : Type 0 where
  pub joined : List ℕ
  pub taken : HasTaken V1 piece_length [] joined owing.sums
  pub whole : (count : ℕ) × (length joined ≡ count * piece_length)
  pub is_owed : piece_sums piece_length joined ≡ owed
  pub can : CanFinish owing.sums
