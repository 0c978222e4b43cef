-- What holds with the bytes of a piece that were read holds of those of the file that the words name.
use Rattle.std.proofs.Common.{◌≡◌, List, None, Option, Some, option_map, subst, ℕ}
use Rattle.tor_cli.specs.proof.Proving.{OfPieceBytes, file_of_piece}
use Rattle.tor_cli.specs.declared.proof.words.VerifyOptions.{VerifyOptions}

of_place : (place : Option (List ℕ)) (P : Option (List ℕ) → Type 0) (piece : Option (List ℕ))
    → OfPieceBytes place (λ told. piece ≡ told) → P piece → OfPieceBytes place P
of_place None P piece is holds = subst P is holds
of_place (Some place) P piece (bytes, within, is) holds = (bytes, within, subst P is holds)

pub with_piece : (options : VerifyOptions) (P : Option (List ℕ) → Type 0) (piece : Option (List ℕ))
    → OfPieceBytes (file_of_piece options) (λ told. piece ≡ told) → P piece → OfPieceBytes (file_of_piece options) P
with_piece options P piece = of_place (file_of_piece options) P piece
