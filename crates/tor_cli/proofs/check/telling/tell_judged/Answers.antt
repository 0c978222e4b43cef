-- What goes out, or a front of it, is told of the one tree that the bytes have.
use Rattle.std.proofs.Common.{refl, subst}
use Rattle.std.proofs.lemmas.Result.{err_from_is_err_and}
use Rattle.std.specs.Io.KnownBytes.{Appends}
use Rattle.tor_report.specs.Reports.{IsCutShort}
use Rattle.tor_report.specs.Shown.{check_lines, ended_paths, rooted_lines}
use Rattle.tor_spec.specs.valid.View.{View}
use Rattle.tor_cli.specs.check.Telling.{lines_of}
use Rattle.tor_cli.specs.declared.check.telling.Telling.TheVariants.{Lines, Paths, Roots}
use Rattle.tor_cli.proofs.Judging.{cut_short}
use Rattle.tor_cli.proofs.check.telling.tell_judged.Goals as goal

pub returns-in_err-write_lines-in-Lines-clause-stopped : goal.returns-in_err-write_lines-in-Lines-clause-stopped
returns-in_err-write_lines-in-Lines-clause-stopped g c =
    let (root, described, torrent) = c.requires in
    let hashes = c.args.judged.now.hashes in
    let stopped = subst (λ (view : View). IsCutShort (check_lines view hashes) (g.W.Write.contents c.args.out.now)
    (g.W.Write.contents c.write_lines.new.out) c.in_err-write_lines-in-Lines.field-0.0) described
    c.in_err-write_lines-in-Lines.ensures.stopped in
    let p = err_from_is_err_and c.from_residual.result
    c.from_residual.ensures.1 in
    rw (p.1, p.2, c.in-Lines.is) (cut_short (lines_of Lines) c.args.bytes.now _ _ _ _ (root, hashes, torrent, refl)
    stopped)

pub returns-in_ok-write_lines-in-Lines-clause-printed : goal.returns-in_ok-write_lines-in-Lines-clause-printed
returns-in_ok-write_lines-in-Lines-clause-printed g c =
    let (root, described, torrent) = c.requires in
    let hashes = c.args.judged.now.hashes in
    let printed = subst (λ (view : View). Appends (g.W.Write.contents c.args.out.now)
    (g.W.Write.contents c.write_lines.new.out) (check_lines view hashes)) described
    c.in_ok-write_lines-in-Lines.ensures.printed in
    rw c.in-Lines.is (_, (root, hashes, torrent, refl), printed)

pub returns-in_err-write_paths-in-Paths-clause-stopped : goal.returns-in_err-write_paths-in-Paths-clause-stopped
returns-in_err-write_paths-in-Paths-clause-stopped g c =
    let (root, described, torrent) = c.requires in
    let hashes = c.args.judged.now.hashes in
    let stopped = subst (λ (view : View). IsCutShort (ended_paths view) (g.W.Write.contents c.args.out.now)
    (g.W.Write.contents c.write_paths.new.out) c.in_err-write_paths-in-Paths.field-0.0) described
    c.in_err-write_paths-in-Paths.ensures.stopped in
    let p = err_from_is_err_and c.from_residual-in_err-write_paths-in-Paths.result
    c.from_residual-in_err-write_paths-in-Paths.ensures.1 in
    rw (p.1, p.2, c.in-Paths.is) (cut_short (lines_of Paths) c.args.bytes.now _ _ _ _ (root, hashes, torrent, refl)
    stopped)

pub returns-in_err-write_rooted_lines-in-Roots-clause-stopped
    : goal.returns-in_err-write_rooted_lines-in-Roots-clause-stopped
returns-in_err-write_rooted_lines-in-Roots-clause-stopped g c =
    let (root, described, torrent) = c.requires in
    let hashes = c.args.judged.now.hashes in
    let stopped = subst (λ (view : View). IsCutShort (rooted_lines view hashes) (g.W.Write.contents c.args.out.now)
    (g.W.Write.contents c.write_rooted_lines.new.out) c.in_err-write_rooted_lines-in-Roots.field-0.0) described
    c.in_err-write_rooted_lines-in-Roots.ensures.stopped in
    let p = err_from_is_err_and c.from_residual-in_err-write_rooted_lines-in-Roots.result
    c.from_residual-in_err-write_rooted_lines-in-Roots.ensures.1 in
    rw (p.1, p.2, c.in-Roots.is) (cut_short (lines_of Roots) c.args.bytes.now _ _ _ _ (root, hashes, torrent, refl)
    stopped)

pub returns-in_ok-write_rooted_lines-in-Roots-clause-printed : goal.returns-in_ok-write_rooted_lines-in-Roots-clause-printed
returns-in_ok-write_rooted_lines-in-Roots-clause-printed g c =
    let (root, described, torrent) = c.requires in
    let hashes = c.args.judged.now.hashes in
    let printed = subst (λ (view : View). Appends (g.W.Write.contents c.args.out.now)
    (g.W.Write.contents c.write_rooted_lines.new.out) (rooted_lines view hashes)) described
    c.in_ok-write_rooted_lines-in-Roots.ensures.printed in
    rw c.in-Roots.is (_, (root, hashes, torrent, refl), printed)

pub returns-in-Link-clause-printed : goal.returns-in-Link-clause-printed
returns-in-Link-clause-printed g c = rw c.in-Link.is c.tell_link.ensures.printed

pub returns-in-Record-clause-printed : goal.returns-in-Record-clause-printed
returns-in-Record-clause-printed g c = rw c.in-Record.is c.tell_record.ensures.printed
