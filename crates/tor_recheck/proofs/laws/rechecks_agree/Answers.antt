use Rattle.tor_recheck.proofs.SeenFirst.{first_is_seen, held_are_readable, right_are_readable}
use Rattle.tor_recheck.proofs.laws.rechecks_agree.Goals as goal

pub returns : goal.returns
returns g c = record {
  first = first_is_seen;
  right = right_are_readable;
  held = held_are_readable;
}
