use Rattle.tor_edit.proofs.LastTracker.{last_tracker_counts}
use Rattle.tor_edit.proofs.laws.last_tracker_counts.Goals as goal

pub returns : goal.returns
returns c = last_tracker_counts
