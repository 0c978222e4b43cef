-- the hashes, and what they are judged to be
use Rattle.tor_recheck.proofs.Names.{◌∙◌, ap, length, contents_in}
use Rattle.tor_recheck.proofs.Rechecked.{count_of_judged, judged_is_verified}
use Rattle.tor_recheck.proofs.rechecking.recheck.Goals as goal

pub returns-clause-found : goal.returns-clause-found
returns-clause-found g c = λ how facts steady.
    let view = c.args.torrent.now in
    let found = c.in-Ok.ensures.hashed how facts steady in (
      c.in_ok-bits.ensures
          ∙ judged_is_verified view (contents_in facts (length view.files)) c.in-Ok.ensures.cut
          c.in-Ok.found.hashes found.0,
      found.2,
    )

pub returns-clause-counted : goal.returns-clause-counted
returns-clause-counted g c =
    let view = c.args.torrent.now in
    ap length c.in_ok-bits.ensures
    ∙ count_of_judged view c.in-Ok.found.hashes
    ∙ c.in-Ok.ensures.counted.0
