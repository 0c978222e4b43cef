use Rattle.tor_spec.proofs.ProvedLaws.{torrents_are_lawful}
use Rattle.tor_spec.proofs.laws.torrents_are_lawful.Goals as goal

pub returns : goal.returns
returns c = torrents_are_lawful
