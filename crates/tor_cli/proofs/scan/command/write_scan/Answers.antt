-- What was put is what was written.
use Rattle.std.proofs.Common.{[]}
use Rattle.tor_report.proofs.ProvedLaws.{at_write, put_nothing, without_memory}
use Rattle.tor_report.specs.Writers.{writer_is_sink}
use Rattle.tor_cli.specs.scan.ScanText.{scan_text}
use Rattle.tor_cli.proofs.scan.command.write_scan.Goals as goal

pub returns-in_err-buffer-clause-stopped : goal.returns-in_err-buffer-clause-stopped
returns-in_err-buffer-clause-stopped g c =
    without_memory _ (scan_text c.args.form c.args.found.now) _ c.from_residual.ensures

pub returns-in_err-put_scan-clause-stopped : goal.returns-in_err-put_scan-clause-stopped
returns-in_err-put_scan-clause-stopped g c =
    let start = c.args.out.now in
    let fresh = put_nothing (writer_is_sink g.W.Write.contents) start c.in_ok-buffer.buffer c.in_ok-buffer.ensures in
    let stopped = c.in_err-put_scan.ensures.stopped.after start [] fresh in
    at_write _ _ _ _ _ c.from_residual-in_err-put_scan.ensures (stopped.0, stopped.1)

pub returns-in_err-end-clause-stopped : goal.returns-in_err-end-clause-stopped
returns-in_err-end-clause-stopped g c =
    let start = c.args.out.now in
    let fresh = put_nothing (writer_is_sink g.W.Write.contents) start c.in_ok-buffer.buffer c.in_ok-buffer.ensures in
    let stopped = c.in_err-end.ensures.stopped start _ (c.in_ok-put_scan.ensures.put.after start [] fresh) in
    at_write _ _ _ _ _ c.from_residual-in_err-end.ensures (stopped.0, stopped.1)

pub returns-clause-printed : goal.returns-clause-printed
returns-clause-printed g c =
    let start = c.args.out.now in
    let fresh = put_nothing (writer_is_sink g.W.Write.contents) start c.in_ok-buffer.buffer c.in_ok-buffer.ensures in
    c.in_ok-end.ensures.whole start _ (c.in_ok-put_scan.ensures.put.after start [] fresh)
