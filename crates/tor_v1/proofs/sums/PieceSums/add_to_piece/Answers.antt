-- a part that ends its piece, and one that does not
use Rattle.std.proofs.Common.{refl, arith}
use Rattle.tor_v1.proofs.Fed.{adds_open, adds_full, room_next}
use Rattle.tor_v1.proofs.sums.PieceSums.add_to_piece.Goals as goal

pub returns-then-self-clause-fed : goal.returns-then-self-clause-fed
returns-then-self-clause-fed c = λ p before fed.
    adds_full c.args.self.now p before fed _ c.args.part.now refl c.if-self.true refl
    (λ m holds. c.end_piece.ensures.hashed _ (c.update.ensures m holds)) c.end_piece.ensures.next

pub returns-then-self-clause-room : goal.returns-then-self-clause-room
returns-then-self-clause-room c = λ later room.
    room_next c.args.self.now _ later _ _ c.if-self.true c.end_piece.ensures.len c.end_piece.ensures.capacity room

pub returns-else-self-clause-fed : goal.returns-else-self-clause-fed
returns-else-self-clause-fed c = λ p before fed.
    adds_open c.args.self.now p before fed _ c.args.part.now refl
    (omega (arith, c.if-self.false, c.requires.within)) refl refl c.update.ensures
