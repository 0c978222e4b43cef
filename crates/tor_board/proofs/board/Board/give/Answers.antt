use Rattle.tor_board.proofs.{Finding.levels_of, Meets.{given_after, given_alone, in_no_run}}
use Rattle.tor_board.proofs.Names.{IsTreeOf, Shape, arith, subst}
use Rattle.tor_board.proofs.board.Board.give.Goals as goal

pub hand_alone-requires-clause-alone : goal.hand_alone-requires-clause-alone
hand_alone-requires-clause-alone c
    = λ t is j h. c.in_default.ensures.none t (subst (λ (s : Shape). IsTreeOf s t) c.args.self.now.sized is) j h

pub returns-clause-given : goal.returns-clause-given
returns-clause-given c = let t = c.in-Some.tree in let some = c.in-Some.ensures.some in
    let levels = levels_of c.args.self.now c.args.self.now.shaped t some.0 c.args.job.number some.1 some.2 in
    given_after c.args.self.now t some.0 c.climb.result.top c.climb.result.joined _ levels c.climb.ensures.few
    c.climb.ensures.number c.args.seat.now.inner.me.0 c.begin-start.new.seat.me.0 c.climb.new.seat.me
    c.args.job.number c.args.hash c.begin-start.ensures.given.0 some.1 some.2 c.begin-start.ensures.given.1
    c.climb.ensures.view

pub returns-in_default-clause-given : goal.returns-in_default-clause-given
returns-in_default-clause-given c = let board = c.args.self.now in let u = c.args.job.number in (
  0,
  given_alone c.args.seat.now.inner.me.0 c.hand_alone.new.seat.me u c.args.hash c.hand_alone.ensures.given,
  omega arith,
  (omega arith, λ n run at has. absurd (in_no_run board board.shaped u c.in_default.ensures.none n run at has)),
)
