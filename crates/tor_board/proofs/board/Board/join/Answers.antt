use Rattle.tor_board.proofs.{Moves.merges, Names.{Seated, ap, arith, both, rules, ◌||◌, ◌∙◌, ◌≡◌}, Seats.join_keeps}
use Rattle.tor_board.proofs.board.Board.join.Goals.{else-done, then-done}
use Rattle.tor_board.proofs.board.Board.join.Goals as goal

pub join_seat-requires : goal.join_seat-requires
join_seat-requires c = let seat = c.args.seat in let other = c.args.other in let board = c.args.self.now in (
  c.requires.0.0,
  c.requires.1.0,
  other.same.2,
  omega (arith, board.shaped.two),
  rw board.sized (λ s kept at apart there.
      join_keeps board.shape kept _ _ at _ _ apart there (omega (arith, seat.roomy.0, seat.same.0)) other.idle),
)

pub load-requires : goal.load-requires
load-requires c = let board = c.args.self.now in (
  search rules,
  omega (arith, board.shaped.two),
  rw board.sized (merges board.shape _ _ _ (ap (λ (m : Seated). m.0.climb) c.join_seat.ensures.2 ∙ c.args.seat.idle)),
)

pub invariant_of-result : goal.invariant_of-result
invariant_of-result c = let seat = c.args.seat in let other = c.args.other in
    let me : c.load.new.seat.me ≡ (both seat.inner.me.0 other.inner.me.0, seat.inner.me.1) = grind arith in
    let before = ap (λ (m : Seated). m.0.room) c.join_seat.ensures.2 in let most = c.load.ensures.2.2 in
    let parts : (seat.inner.me.0.done || other.inner.me.0.done) ≡ (seat.done || other.done)
    = λ i. seat.same.1 i || other.same.1 i in let last : (seat.done || other.done) ≡ c.if-done.result = grind arith in
    record {
      same = grind arith;
      idle = ap (λ (m : Seated). m.0.climb) me ∙ seat.idle;
      calm = ap (λ (m : Seated). m.0.looked) me;
      roomy = (omega (arith, seat.roomy.0), omega (arith, seat.same.0, other.same.0));
    }
