use Rattle.tor_lane.proofs.Reached.{reached}
use Rattle.tor_lane.proofs.Whole.{whole}
use Rattle.tor_lane.proofs.laws.lane_law.Goals as goal

pub returns : goal.returns
returns c = record {
  reached = reached;
  fed = λ items views kept. (kept.feeder, kept.fed, λ at v here feeds. (kept.feeds at v here feeds).0);
  whole = whole;
}
