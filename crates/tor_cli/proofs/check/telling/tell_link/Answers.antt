-- The link of the one tree that the bytes have.
use Rattle.std.proofs.lemmas.Result.{err_from_is_err_and}
use Rattle.std.specs.Prelude.{string_bytes}
use Rattle.tor_cli.proofs.check.telling.tell_link.Goals as goal

pub returns-in_err-write_out-clause-stopped : goal.returns-in_err-write_out-clause-stopped
returns-in_err-write_out-clause-stopped g c =
    let (root, described, torrent) = c.requires in
    let short = rw c.as_bytes.ensures.value at c.in_err-write_out.ensures.part in
    let front = rw c.as_bytes.ensures.value at c.in_err-write_out.ensures.err in
    let printed = c.in_ok-line.ensures root described torrent in
    let p = err_from_is_err_and c.from_residual-in_err-write_out.result
    c.from_residual-in_err-write_out.ensures.1 in
    rw (p.1, p.2) (
      string_bytes c.in_ok-line.line,
      (root, c.args.judged.now.hashes, torrent, printed),
      (short, front),
    )

pub returns-clause-printed : goal.returns-clause-printed
returns-clause-printed g c =
    let (root, described, torrent) = c.requires in
    let sent = rw c.as_bytes.ensures.value at c.in_ok-write_out.ensures.ok in
    let printed = c.in_ok-line.ensures root described torrent in (
      string_bytes c.in_ok-line.line,
      (root, c.args.judged.now.hashes, torrent, printed),
      sent,
    )
