use Rattle.std.proofs.Common.{refl}
use Rattle.tor_lane.specs.Reached as lane
use Rattle.tor_lane.proofs.Steps.{learned, made, received, sent}
use Rattle.tor_lane.proofs.laws.rule_law.Goals as goal

pub returns : goal.returns
returns c = record {
  rule = λ items views kept. kept;
  begins = (refl, lane.begins);
  told = λ v x w. (λ t. t, λ t. t);
  sends = sent;
  receives = received;
  makes = made;
  learns = learned;
  made = λ v. (refl, refl);
  joined = λ v w. (refl, refl);
  feeder = λ f. (f.feeding.0, f.feeding.1, f.room);
  taker = λ t. (t.taking.0, t.taking.1);
}
