use Rattle.tor_view.proofs.ProvedLaws.{valid_torrents_are_cut}
use Rattle.tor_view.proofs.laws.valid_torrents_are_cut.Goals as goal

pub returns : goal.returns
returns c = valid_torrents_are_cut
