use Rattle.tor_merkle.proofs.ProvedLaws.{root_of_halves, root_of_one, root_of_whole}
use Rattle.tor_merkle.proofs.laws.roots_of_runs.Goals as goal

pub returns : goal.returns
returns c = record { one = root_of_one; halves = root_of_halves; whole = root_of_whole }
