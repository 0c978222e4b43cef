-- The record of the one tree that the bytes have.
use Rattle.std.proofs.Common.{refl, subst}
use Rattle.std.proofs.lemmas.Result.{err_from_is_err_and}
use Rattle.std.specs.Io.KnownBytes.{Appends}
use Rattle.tor_bencode.specs.Data.{Data}
use Rattle.tor_report.specs.Records.{check_line}
use Rattle.tor_report.specs.Reports.{IsCutShort}
use Rattle.tor_spec.specs.valid.View.{View}
use Rattle.tor_cli.specs.check.Telling.{lines_of}
use Rattle.tor_cli.specs.declared.check.telling.Telling.TheVariants.{Record}
use Rattle.tor_cli.proofs.Judging.{cut_short}
use Rattle.tor_cli.proofs.check.telling.tell_record.Goals as goal

pub returns-in_err-write_record-clause-stopped : goal.returns-in_err-write_record-clause-stopped
returns-in_err-write_record-clause-stopped g c =
    let (root, described, torrent) = c.requires in
    let hashes = c.args.judged.now.hashes in
    let read = c.in_ok-root.ensures root torrent.torrent in
    let of_root = subst (λ (tree : Data). IsCutShort (check_line tree c.args.judged.now.torrent hashes)
    (g.W.Write.contents c.args.out.now) (g.W.Write.contents c.write_record.new.out)
    c.in_err-write_record.field-0.0) read c.in_err-write_record.ensures.stopped in
    let stopped = subst (λ (view : View). IsCutShort (check_line root view hashes) (g.W.Write.contents c.args.out.now)
    (g.W.Write.contents c.write_record.new.out) c.in_err-write_record.field-0.0) described of_root in
    let p = err_from_is_err_and c.from_residual-in_err-write_record.result
    c.from_residual-in_err-write_record.ensures.1 in
    rw (p.1, p.2) (cut_short (lines_of Record) c.args.bytes.now _ _ _ _ (root, hashes, torrent, refl)
    stopped)

pub returns-clause-printed : goal.returns-clause-printed
returns-clause-printed g c =
    let (root, described, torrent) = c.requires in
    let hashes = c.args.judged.now.hashes in
    let read = c.in_ok-root.ensures root torrent.torrent in
    let of_root = subst (λ (tree : Data). Appends (g.W.Write.contents c.args.out.now)
    (g.W.Write.contents c.write_record.new.out) (check_line tree c.args.judged.now.torrent hashes)) read
    c.in_ok-write_record.ensures.printed in
    let printed = subst (λ (view : View). Appends (g.W.Write.contents c.args.out.now)
    (g.W.Write.contents c.write_record.new.out) (check_line root view hashes)) described of_root in
    (_, (root, hashes, torrent, refl), printed)
