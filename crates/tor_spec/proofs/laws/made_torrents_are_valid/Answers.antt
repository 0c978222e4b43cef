use Rattle.tor_spec.proofs.ProvedLaws.{made_torrents_are_told, made_torrents_are_valid}
use Rattle.tor_spec.proofs.laws.made_torrents_are_valid.Goals as goal

pub returns : goal.returns
returns c = record { valid = made_torrents_are_valid; view = made_torrents_are_told }
