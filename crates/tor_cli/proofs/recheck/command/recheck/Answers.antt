-- What is told of the torrent, or a front of it, was written.
use Rattle.std.proofs.Common.{◌≤◌, arith, length, refl}
use Rattle.std.proofs.lemmas.Result.{err_from_is_err_and}
use Rattle.tor_source.specs.declared.input.TheConstants.{MAX_INPUT_LENGTH}
use Rattle.tor_cli.proofs.Rechecking.{stops_rechecking}
use Rattle.tor_cli.proofs.Reported.{not_written}
use Rattle.tor_cli.proofs.recheck.command.recheck.Goals as goal

pub returns-clause-answered : goal.returns-clause-answered
returns-clause-answered g c reader =
    let within : length c.deref.result.now ≤ MAX_INPUT_LENGTH =
    omega (arith, c.deref.ensures.len, c.in_ok-bytes.ensures) in
    let (text, printed, appends) = rw c.deref-2.ensures.value at c.in_ok-write_report.ensures.printed in
    (refl, (c.deref.result.now, within, (text, c.in_ok-told.ensures.rechecked text printed, appends)))

pub returns-in_err-write_report-clause-stopped : goal.returns-in_err-write_report-clause-stopped
returns-in_err-write_report-clause-stopped g c reader =
    let within : length c.deref.result.now ≤ MAX_INPUT_LENGTH =
    omega (arith, c.deref.ensures.len, c.in_ok-bytes.ensures) in
    let p =
    err_from_is_err_and c.from_residual-in_err-write_report.result c.from_residual-in_err-write_report.ensures.1 in
    rw (p.1, p.2) (not_written c.args.options.now c.deref.result.now c.in_ok-told.told reader _ _
    c.in_err-write_report.field-0.0 within c.in_ok-told.ensures.rechecked
    (rw c.deref-2.ensures.value at c.in_err-write_report.ensures.stopped))

pub returns-in_err-told-clause-stopped : goal.returns-in_err-told-clause-stopped
returns-in_err-told-clause-stopped g c reader =
    let within : length c.deref.result.now ≤ MAX_INPUT_LENGTH =
    omega (arith, c.deref.ensures.len, c.in_ok-bytes.ensures) in
    let p = err_from_is_err_and c.from_residual-in_err-told.result c.from_residual-in_err-told.ensures.1 in
    rw (p.1, p.2) (stops_rechecking _ (refl, refl) c.deref.result.now within c.args.options.now
    c.in_err-told.field-0.0 c.in_err-told.ensures.stopped c.in_err-told.ensures.goes_on)
