use Rattle.tor_view.proofs.FileStates.{bad_is, missing_is, short_is, whole_is}
use Rattle.tor_view.proofs.laws.states_of_files.Goals as goal

pub returns : goal.returns
returns c = record { missing = missing_is; short = short_is; bad = bad_is; whole = whole_is }
