-- What was put is what was written.
use Rattle.std.proofs.Common.{[], ◌++◌}
use Rattle.tor_report.proofs.ProvedLaws.{at_write, put_nothing, puts_both, stops_later, stops_sooner, without_memory}
use Rattle.tor_report.specs.Writers.{writer_is_sink}
use Rattle.tor_cli.specs.recheck.FoundFiles.{told_of_files}
use Rattle.tor_cli.specs.recheck.Recheck.{pieces_text}
use Rattle.tor_cli.proofs.recheck.report.write_lines.Goals as goal

pub returns-in_err-buffer-clause-stopped : goal.returns-in_err-buffer-clause-stopped
returns-in_err-buffer-clause-stopped g c =
    without_memory _ (pieces_text c.args.form c.args.listing c.args.bits.now
    ++ told_of_files c.args.listing c.args.files.now c.args.torrent.now.files) _ c.from_residual.ensures

pub returns-in_err-packed-clause-stopped : goal.returns-in_err-packed-clause-stopped
returns-in_err-packed-clause-stopped g c =
    without_memory _ (pieces_text c.args.form c.args.listing c.args.bits.now
    ++ told_of_files c.args.listing c.args.files.now c.args.torrent.now.files) _
    c.from_residual-in_err-packed.ensures

pub returns-in_err-put_pieces-clause-stopped : goal.returns-in_err-put_pieces-clause-stopped
returns-in_err-put_pieces-clause-stopped g c =
    let start = c.args.out.now in
    let law = writer_is_sink g.W.Write.contents in
    let fresh = put_nothing law start c.in_ok-buffer.buffer c.in_ok-buffer.ensures in
    let stop =
    stops_sooner law _ (told_of_files c.args.listing c.args.files.now c.args.torrent.now.files) _ _ _ _
    c.in_err-put_pieces.ensures.stopped in
    let stopped = stop.after start [] fresh in
    at_write _ _ _ _ _ c.from_residual-in_err-put_pieces.ensures (stopped.0, stopped.1)

pub returns-in_err-put_files-clause-stopped : goal.returns-in_err-put_files-clause-stopped
returns-in_err-put_files-clause-stopped g c =
    let start = c.args.out.now in
    let law = writer_is_sink g.W.Write.contents in
    let fresh = put_nothing law start c.in_ok-buffer.buffer c.in_ok-buffer.ensures in
    let stop =
    stops_later law _ _ _ _ _ _ _ _ c.in_ok-put_pieces.ensures.put
    (rw c.files.ensures.value at c.in_err-put_files.ensures.stopped) in
    let stopped = stop.after start [] fresh in
    at_write _ _ _ _ _ c.from_residual-in_err-put_files.ensures (stopped.0, stopped.1)

pub returns-in_err-end-clause-stopped : goal.returns-in_err-end-clause-stopped
returns-in_err-end-clause-stopped g c =
    let start = c.args.out.now in
    let law = writer_is_sink g.W.Write.contents in
    let fresh = put_nothing law start c.in_ok-buffer.buffer c.in_ok-buffer.ensures in
    let put =
    puts_both _ _ _ _ _ _ _ _ c.in_ok-put_pieces.ensures.put
    (rw c.files.ensures.value at c.in_ok-put_files.ensures.put) in
    let stopped = c.in_err-end.ensures.stopped start _ (put.after start [] fresh) in
    at_write _ _ _ _ _ c.from_residual-in_err-end.ensures (stopped.0, stopped.1)

pub returns-clause-printed : goal.returns-clause-printed
returns-clause-printed g c =
    let start = c.args.out.now in
    let law = writer_is_sink g.W.Write.contents in
    let fresh = put_nothing law start c.in_ok-buffer.buffer c.in_ok-buffer.ensures in
    let put =
    puts_both _ _ _ _ _ _ _ _ c.in_ok-put_pieces.ensures.put
    (rw c.files.ensures.value at c.in_ok-put_files.ensures.put) in
    c.in_ok-end.ensures.whole start _ (put.after start [] fresh)
