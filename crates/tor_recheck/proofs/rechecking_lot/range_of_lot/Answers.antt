-- a lot begins no later than the next one
use Rattle.tor_recheck.proofs.Names.{◌∙◌, ◌+◌, ◌≤◌, ap₂, subst, sym}
use Rattle.tor_recheck.proofs.DealtLots.{lots_rise}
use Rattle.tor_recheck.specs.Lots.{first_of_lot}
use Rattle.tor_recheck.proofs.rechecking_lot.range_of_lot.Goals as goal

pub returns-clause-ordered : goal.returns-clause-ordered
returns-clause-ordered c =
    let lots = c.args.lots in
    let count = c.piece_count-count.ensures in
    let begins = c.first_of_lot-first.ensures.result ∙ ap₂ (λ n l. first_of_lot n lots l) count c.from.ensures in
    let ends = c.first_of_lot-after.ensures.result ∙ ap₂ (λ n l. first_of_lot n lots (l + 1)) count c.from-2.ensures in
    subst (λ a. a ≤ c.first_of_lot-after.result) (sym begins)
    (subst (λ b. first_of_lot c.args.torrent.now.piece_count lots c.args.lot ≤ b) (sym ends)
    (lots_rise c.args.torrent.now.piece_count lots c.args.lot))
