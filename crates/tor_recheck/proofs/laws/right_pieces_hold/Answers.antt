use Rattle.tor_recheck.proofs.Names.{cond-true, has_v2, merkle_pieces, verified_pieces}
use Rattle.tor_recheck.proofs.HeldLaws.{held_are_verified, verified_hold}
use Rattle.tor_recheck.proofs.laws.right_pieces_hold.Goals as goal

pub returns : goal.returns
returns c = record {
  same = held_are_verified;
  right = verified_hold;
  merkle = λ view contents two.
      cond-true (has_v2 view.kind) (merkle_pieces view.piece_length view.files contents)
      (verified_pieces view contents) two;
}
