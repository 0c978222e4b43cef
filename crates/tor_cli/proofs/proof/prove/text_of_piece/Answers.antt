-- The refusal is that of the piece, and the text that of its proof.
use Rattle.std.proofs.Common.{◌≡◌, subst}
use Rattle.std.specs.Prelude.{None, IsSomeAnd, slice_get, string_bytes}
use Rattle.tor_check.specs.PieceProofs.{piece_refusal}
use Rattle.tor_spec.specs.valid.View.{View}
use Rattle.tor_cli.specs.proof.Proving.{IsTextOfPiece}
use Rattle.tor_cli.proofs.Proofs.{none_refused, not_proved, weaker}
use Rattle.tor_cli.proofs.proof.prove.text_of_piece.Goals as goal

pub returns-in-Err-prove_piece-clause-stopped : goal.returns-in-Err-prove_piece-clause-stopped
returns-in-Err-prove_piece-clause-stopped c =
    rw c.from-in-Err-prove_piece.ensures
    (not_proved c.args.file c.args.index c.args.bytes.now _ c.in-Ok.ensures.accepted c.prove_piece.result
    c.in-Err-prove_piece.error c.in-Err-prove_piece.is c.prove_piece.ensures.refused c.prove_piece.ensures.answered)

pub returns-clause-proved : goal.returns-clause-proved
returns-clause-proved c =
    let (root, torrent, described) = c.in-Ok.ensures.accepted in
    let file = c.args.file in
    let index = c.args.index in
    let text = string_bytes c.in_ok-proof_text.field-0 in
    let none = none_refused _ c.prove_piece.result c.in-Ok-prove_piece.proved c.in-Ok-prove_piece.is
    c.prove_piece.ensures.refused in
    let view = c.in-Ok.torrent in
    let proved : IsSomeAnd (slice_get view.files file) (IsTextOfPiece view.piece_length index text) =
    weaker _ _ (IsTextOfPiece view.piece_length index text)
    (λ told is. (
      c.in-Ok-prove_piece.proved.0,
      c.in-Ok-prove_piece.proved.1.siblings.items,
      is,
      record {
        below = c.ranges.index.fits;
        is_hash = c.in_ok-proof_text.ensures.hashes.0;
        are_hashes = c.in_ok-proof_text.ensures.hashes.1;
        few = c.in-Ok-prove_piece.ensures.few;
      },
      c.in_ok-proof_text.ensures.text,
    )) c.in-Ok-prove_piece.ensures.proved in
    record {
      root = root;
      torrent = torrent;
      accepted = subst (λ (view : View). piece_refusal view file index ≡ None) described none;
      proved =
          subst
          (λ (view : View). IsSomeAnd (slice_get view.files file) (IsTextOfPiece view.piece_length index text))
          described proved;
    }
