use Rattle.std.proofs.Common.{arith}
use Rattle.std.proofs.lemmas.Grind.{common_steps}
use Rattle.{std.proofs.Common.subst₂, tor_board.proofs.Closing.end_of, tor_board.proofs.Finding.at_number}
use Rattle.tor_board.proofs.{Moves.{all_given, least_failed, none_failed}, Names.{IsLeastOf, IsTreeEnd, Keeps, None}}
use Rattle.tor_board.proofs.{Names.{Run, Shape, ap, get_or, run_of, subst, sym, ℕ, ◌∙◌, ◌≡◌}, Sums.{mapped, read}}
use Rattle.tor_board.{proofs.board.Board.close.Goals.{else-least, then-least}, specs.Seats.knows}
use Rattle.tor_board.proofs.board.Board.close.Goals as goal

pub returns-clause-roots : goal.returns-clause-roots
returns-clause-roots c = λ k run e.
    let f = c.close_with-ended.ensures.values.2 in let board = c.args.self in let seat = c.args.seat in
    let kept = subst (λ (sh : Shape). Keeps sh f.0) board.sized f.1.0 in
    let r = mapped run_of board.shape.trees.items k run e in let t = r.0 in let is = at_number board.shaped k t r.1 in
    let left = c.take_roots.ensures.roots k t r.1 in
    let end = end_of board.shaped kept seat.inner.id seat.inner.me.0 f.1.1 c.requires.whole
    seat.idle _ _ f.2 f.4 t is _ left in subst₂ (λ (n : ℕ) (x : Run). IsTreeEnd (knows seat).given (knows seat).tops n x
    (get_or c.take_roots.new.roots.items k None)) (board.shaped.numbered k t r.1) r.2 end

pub returns-clause-least : goal.returns-clause-least
returns-clause-least c = let f = c.close_with-ended.ensures.values.2 in let kept = f.1.0 in let at = f.1.1 in
    let is : get_or f.0.words 1 0 ≡ c.word-least.result = rw f.2 (read _ 1 _ 0 c.word-least.ensures) in
    elim c.if-least.branch [
      | then-least w ↦ rw w.least_failed-is (none_failed kept.claims _ _ at kept.small (is ∙ w.if-least.true))
      | else-least w ↦ rw w.least_failed-is (subst (IsLeastOf (knows c.args.seat).failed) is
          (least_failed kept.claims _ _ at c.requires.whole (λ e. w.if-least.false (sym is ∙ e))))
    ]

pub returns-clause-all : goal.returns-clause-all
returns-clause-all c = let f = c.close_with-ended.ensures.values.2 in let kept = f.1.0 in let at = f.1.1 in
    let is : get_or f.0.words 1 0 ≡ c.word-least.result = rw f.2 (read _ 1 _ 0 c.word-least.ensures) in
    let units : c.args.self.table.shared.key.units ≡ c.args.self.shape.units
    = ap (λ (sh : Shape). sh.units) c.args.self.sized in elim c.if-least.branch [
      | then-least w ↦ all_given kept.claims _ _ at c.requires.whole kept.small _
          (λ ne. absurd (ne (is ∙ w.if-least.true))) (λ e. rw w.least_failed-is (sym units))
      | else-least w ↦ all_given kept.claims _ _ at c.requires.whole kept.small _
          (λ ne. rw w.least_failed-is (sym is)) (λ e. absurd (w.if-least.false (sym is ∙ e)))
    ]

pub returns-clause-count : goal.returns-clause-count
returns-clause-count c = grind (arith, common_steps)
