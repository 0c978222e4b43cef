-- the closure gives the number
use Rattle.std.proofs.Common.{◌≡◌, ap, rules, ◌∙◌}
use Rattle.tor_engine.proofs.workers.on_board.in_order.Goals as goal

pub returns-clause-placed : goal.returns-clause-placed
returns-clause-placed g c =
    let number = g.W.UnitWork.number_in c.args.work.now in
    c.put_in_order.ensures.placed number
    (λ one n called.
    let met = called.says.met in
    let own : n ≡ number called.shown.now = search rules in
    own ∙ ap number called.shows)
