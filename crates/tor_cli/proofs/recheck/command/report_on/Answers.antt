-- Why nothing is told is that of the torrent that was judged, and of as many places as it has files.
use Rattle.std.proofs.Common.{ℕ, length, subst}
use Rattle.tor_recheck.specs.Recheck.{IsGiven}
use Rattle.tor_recheck.specs.declared.errors.RecheckError.TheVariants.{Workers}
use Rattle.tor_source.specs.Answers.{system_answers}
use Rattle.tor_cli.proofs.Rechecking.{err_is, not_rechecked, past_reads, places_count, told_of}
use Rattle.tor_cli.proofs.recheck.command.report_on.Goals as goal

pub returns-clause-stopped : goal.returns-clause-stopped
returns-clause-stopped g c =
    let view = c.args.placed.now.judged.torrent in
    let source = c.args.placed.now.source in
    let error = c.in-Err.error in
    let count = places_count c.args.options.now.place.now view source c.requires.placed in
    rw c.from.ensures
    (not_rechecked c.args.bytes.now view (told_of c.requires.told) c.args.options.now.workers error
    (subst (λ (n : ℕ). IsGiven (system_answers n) (length view.files) error) count c.in-Err.ensures.gave)
    c.in-Err.ensures.allowed
    (λ none. err_is error Workers _ c.in-Err.is (c.report_by.ensures.refused none)))

pub returns-clause-goes_on : goal.returns-clause-goes_on
returns-clause-goes_on g c = λ kept.
    rw c.from.ensures (past_reads c.in-Err.error (c.in-Err.ensures.goes_past kept))
