-- What is printed, or why nothing is, is that of the torrent that was judged.
use Rattle.std.proofs.Common.{◌∙◌, ℕ, ap, length, subst, sym}
use Rattle.std.specs.Prelude.{OnOk}
use Rattle.tor_recheck.specs.Recheck.{IsGiven}
use Rattle.tor_recheck.specs.declared.errors.RecheckError.TheVariants.{Workers}
use Rattle.tor_source.specs.Answers.{system_answers}
use Rattle.tor_sums.specs.How.{IsHow}
use Rattle.tor_sums.specs.declared.how.How.{How}
use Rattle.tor_sums.specs.declared.how.How.TheVariants.{Board}
use Rattle.tor_cli.specs.recheck.LotRecheck.{lot_text}
use Rattle.tor_cli.proofs.Rechecking.{err_is, fault_of_lot, not_rechecked, places_count, told_of, workers_allowed}
use Rattle.tor_cli.proofs.recheck.lot.report_on.Goals as goal

pub returns-in-Ok-clause-rechecked : goal.returns-in-Ok-clause-rechecked
returns-in-Ok-clause-rechecked g c =
    let options = c.args.options.now in
    let allowed = workers_allowed options.workers c.board_of-how.result c.recheck_lot-rechecked.result
    c.board_of-how.ensures c.recheck_lot-rechecked.ensures.workers in
    record {
      view = c.args.placed.now.judged.torrent;
      torrent = told_of c.requires.told;
      allowed = subst (λ result. OnOk result (IsHow (Board options.workers))) c.in-Ok.is allowed;
      bits = c.in-Ok.bits;
      counted = c.in-Ok.ensures.counted;
      printed =
          c.in_ok-report_of-in-Ok.ensures.printed
          ∙ ap (λ (from : ℕ). lot_text options.form from c.in-Ok.bits) c.pieces_of_lot-from.ensures.first;
      answered = c.in_ok-report_of-in-Ok.ensures.answered;
    }

pub returns-clause-stopped : goal.returns-clause-stopped
returns-clause-stopped g c =
    let view = c.args.placed.now.judged.torrent in
    let source = c.args.placed.now.source in
    let error = c.in-Err.error in
    let workers = c.args.options.now.workers in
    let same = c.board_of-how.ensures in
    let count = places_count c.args.options.now.place.now view source c.requires.placed in
    rw c.from.ensures
    (not_rechecked c.args.bytes.now view (told_of c.requires.told) workers error
    (subst (λ (n : ℕ). IsGiven (system_answers n) (length view.files) error) count c.in-Err.ensures.gave)
    (λ is. c.in-Err.ensures.allowed (subst (λ (how : How). IsHow how) (sym same) is))
    (λ none. err_is error Workers _ c.in-Err.is (c.recheck_lot-rechecked.ensures.workers
    (subst (λ (how : How). IsHow how → ⊥) (sym same) none))))

pub returns-clause-of_lot : goal.returns-clause-of_lot
returns-clause-of_lot g c =
    let view = c.args.placed.now.judged.torrent in
    rw c.from.ensures
    (fault_of_lot c.args.options.now.lot c.args.bytes.now view (told_of c.requires.told) c.in-Err.error
    c.in-Err.ensures.of_lot)
