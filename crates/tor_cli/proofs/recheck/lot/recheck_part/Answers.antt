-- The text, or a front of it, was written.
use Rattle.std.proofs.Common.{◌≤◌, arith, length, refl}
use Rattle.std.proofs.lemmas.Result.{err_from_is_err_and}
use Rattle.std.specs.Prelude.{string_bytes}
use Rattle.tor_source.specs.declared.input.TheConstants.{MAX_INPUT_LENGTH}
use Rattle.tor_cli.proofs.Rechecking.{stops_lot_recheck}
use Rattle.tor_cli.proofs.recheck.lot.recheck_part.Goals as goal

pub returns-in_err-write_out-clause-stopped : goal.returns-in_err-write_out-clause-stopped
returns-in_err-write_out-clause-stopped g c reader =
    let within : length c.deref.result.now ≤ MAX_INPUT_LENGTH =
    omega (arith, c.deref.ensures.len, c.in_ok-bytes.ensures) in
    let short = rw c.as_bytes.ensures.value at c.in_err-write_out.ensures.part in
    let front = rw c.as_bytes.ensures.value at c.in_err-write_out.ensures.err in
    let report = c.in_ok-report.report in
    let rechecked = c.in_ok-report.ensures.rechecked in
    let p =
    err_from_is_err_and c.from_residual-in_err-write_out.result c.from_residual-in_err-write_out.ensures.1 in
    rw (p.1, p.2) (
      refl,
      (report.answer, (c.deref.result.now, within, (string_bytes report.text, rechecked, (short, front)))),
    )

pub returns-in_err-report-clause-stopped : goal.returns-in_err-report-clause-stopped
returns-in_err-report-clause-stopped g c reader =
    let within : length c.deref.result.now ≤ MAX_INPUT_LENGTH =
    omega (arith, c.deref.ensures.len, c.in_ok-bytes.ensures) in
    let p = err_from_is_err_and c.from_residual-in_err-report.result c.from_residual-in_err-report.ensures.1 in
    rw (p.1, p.2) (stops_lot_recheck _ (refl, refl) c.deref.result.now within c.args.options.now
    c.in_err-report.field-0.0 c.in_err-report.ensures.stopped c.in_err-report.ensures.of_lot)
