-- A torrent has `info`, of which the hashes are.
use Rattle.std.proofs.Common.{◌∙◌, ap, subst}
use Rattle.tor_bencode.specs.Spelling.{spelling}
use Rattle.tor_spec.specs.Hashes.{AreInfoHashes}
use Rattle.tor_spec.specs.valid.Parts.{info_of}
use Rattle.tor_spec.specs.valid.View.{View}
use Rattle.tor_report.proofs.Judging.{has_info, info_found}
use Rattle.tor_report.proofs.judged.torrent_with_hashes.Goals as goal

pub info_hashes-hashes-requires : goal.info_hashes-hashes-requires
info_hashes-hashes-requires c =
    let (root, torrent, described) = c.in-Ok.ensures.accepted in
    has_info root c.args.bytes.now torrent

pub returns-in-Ok-clause-accepted : goal.returns-in-Ok-clause-accepted
returns-in-Ok-clause-accepted c =
    let (root, torrent, described) = c.in-Ok.ensures.accepted in
    let found = info_found root torrent.accepted in (
      root,
      described,
      record {
        torrent = torrent;
        hashed =
            subst (λ kind. AreInfoHashes kind (spelling (info_of root)) c.info_hashes-hashes.result)
            (c.kind.ensures ∙ ap (λ (view : View). view.kind) described)
            (c.info_hashes-hashes.ensures root (info_of root) torrent.lawful torrent.spelled found);
      },
    )
