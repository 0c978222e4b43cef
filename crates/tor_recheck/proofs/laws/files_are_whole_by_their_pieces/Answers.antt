use Rattle.tor_recheck.proofs.AllSet.{all_are_whole, whole_by_pieces}
use Rattle.tor_recheck.proofs.laws.files_are_whole_by_their_pieces.Goals as goal

pub returns : goal.returns
returns c = record { exactly = whole_by_pieces; all = all_are_whole }
