-- The pieces were counted, or it is told why they were not.
use Rattle.std.proofs.Common.{ℕ, length, subst}
use Rattle.tor_recheck.specs.Recheck.{IsGiven}
use Rattle.tor_recheck.specs.declared.errors.RecheckError.TheVariants.{Workers}
use Rattle.tor_source.specs.Answers.{system_answers}
use Rattle.tor_cli.specs.Status.{of_recheck_error}
use Rattle.tor_cli.proofs.CheckAfter.{as_made, not_as_made, not_kept}
use Rattle.tor_cli.proofs.Rechecking.{err_is, not_rechecked, places_count, told_of}
use Rattle.tor_cli.proofs.make.check_after.check_after.Goals as goal

pub returns-in-Ok-counted-clause-kept : goal.returns-in-Ok-counted-clause-kept
returns-in-Ok-counted-clause-kept g c =
    as_made c.args.bytes.now c.in-Ok.placed.judged.torrent c.in-Ok-counted.counts (told_of c.in-Ok.ensures.told)
    c.in-Ok-counted.ensures.counted c.all_good.result c.all_good.ensures.kept

pub returns-in-Ok-counted-clause-stopped : goal.returns-in-Ok-counted-clause-stopped
returns-in-Ok-counted-clause-stopped g c =
    not_as_made c.args.bytes.now c.in-Ok.placed.judged.torrent c.in-Ok-counted.counts (told_of c.in-Ok.ensures.told)
    c.in-Ok-counted.ensures.counted c.args.workers c.all_good.result c.all_good.ensures.refused

pub returns-clause-stopped : goal.returns-clause-stopped
returns-clause-stopped g c =
    let bytes = c.args.bytes.now in
    let workers = c.args.workers in
    let view = c.in-Ok.placed.judged.torrent in
    let source = c.in-Ok.placed.source in
    let error = c.in-Err-counted.error in
    let why = c.in-Err-counted.ensures in
    let count = places_count c.args.place.now view source c.in-Ok.ensures.placed in
    rw c.from.ensures
    (not_kept workers bytes (of_recheck_error error)
    (not_rechecked bytes view (told_of c.in-Ok.ensures.told) workers error
    (subst (λ (n : ℕ). IsGiven (system_answers n) (length view.files) error) count why.gave)
    why.allowed
    (λ none. err_is error Workers _ c.in-Err-counted.is (c.count_pieces-counted.ensures.workers none))))
