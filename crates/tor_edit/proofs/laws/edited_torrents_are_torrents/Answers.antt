use Rattle.tor_edit.proofs.Torrents.{still_a_torrent, view_is_kept}
use Rattle.tor_edit.proofs.laws.edited_torrents_are_torrents.Goals as goal

pub returns : goal.returns
returns c = record { valid = λ root bytes tracker. still_a_torrent root tracker bytes; view = view_is_kept }
