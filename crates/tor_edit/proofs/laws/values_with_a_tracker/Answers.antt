use Rattle.tor_edit.proofs.Values.{no_list, others_are_kept, tracker_is}
use Rattle.tor_edit.proofs.laws.values_with_a_tracker.Goals as goal

pub returns : goal.returns
returns c = record { tracker = tracker_is; no_list = no_list; others = others_are_kept }
