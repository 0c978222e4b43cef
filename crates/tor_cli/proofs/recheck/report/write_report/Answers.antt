-- The lines, or the record of what was found of each file.
use Rattle.std.proofs.Common.{refl}
use Rattle.tor_cli.proofs.Reported.{are_brief, are_lines, did_not, nothing_out, went_out}
use Rattle.tor_cli.specs.recheck.Recheck.{IsText}
use Rattle.tor_cli.proofs.recheck.report.write_report.Goals as goal

pub returns-in-Text-clause-printed : goal.returns-in-Text-clause-printed
returns-in-Text-clause-printed g c =
    went_out _ _ _ _ c.write_lines.result
    (are_lines c.args.listing c.args.judged.now.torrent c.args.judged.now.hashes c.args.bits.now c.args.files.now
    c.args.form c.in-Text.is)
    c.write_lines.ensures.printed

pub returns-in-Text-clause-stopped : goal.returns-in-Text-clause-stopped
returns-in-Text-clause-stopped g c =
    did_not _ _ _ _ c.write_lines.result
    (are_lines c.args.listing c.args.judged.now.torrent c.args.judged.now.hashes c.args.bits.now c.args.files.now
    c.args.form c.in-Text.is)
    c.write_lines.ensures.stopped

pub returns-in-Brief-clause-printed : goal.returns-in-Brief-clause-printed
returns-in-Brief-clause-printed g c =
    went_out _ _ _ _ c.write_lines-in-Brief.result
    (are_brief c.args.listing c.args.judged.now.torrent c.args.judged.now.hashes c.args.bits.now c.args.files.now
    c.args.form c.in-Brief.is)
    c.write_lines-in-Brief.ensures.printed

pub returns-in-Brief-clause-stopped : goal.returns-in-Brief-clause-stopped
returns-in-Brief-clause-stopped g c =
    did_not _ _ _ _ c.write_lines-in-Brief.result
    (are_brief c.args.listing c.args.judged.now.torrent c.args.judged.now.hashes c.args.bits.now c.args.files.now
    c.args.form c.in-Brief.is)
    c.write_lines-in-Brief.ensures.stopped

pub returns-in_err-told-in-Json-clause-stopped : goal.returns-in_err-told-in-Json-clause-stopped
returns-in_err-told-in-Json-clause-stopped g c =
    nothing_out (IsText c.args.form c.args.listing c.args.judged.now.torrent c.args.judged.now.hashes c.args.bits.now
    c.args.files.now) _ _ c.from_residual.ensures

pub returns-in_ok-told-in-Json-clause-printed : goal.returns-in_ok-told-in-Json-clause-printed
returns-in_ok-told-in-Json-clause-printed g c =
    rw c.in-Json.is (went_out _ _ _ _ c.write_record.result
    (c.in_ok-told-in-Json.told.items, c.in_ok-told-in-Json.ensures, refl)
    (rw c.deref.ensures.value at c.write_record.ensures.printed))

pub returns-in_ok-told-in-Json-clause-stopped : goal.returns-in_ok-told-in-Json-clause-stopped
returns-in_ok-told-in-Json-clause-stopped g c =
    rw c.in-Json.is (did_not _ _ _ _ c.write_record.result
    (c.in_ok-told-in-Json.told.items, c.in_ok-told-in-Json.ensures, refl)
    (rw c.deref.ensures.value at c.write_record.ensures.stopped))
