use Rattle.tor_board.proofs.{Names.{arith, refl}, Ties.{arrive_is, claim_is, fail_is, hand_is, look_is, merge_is}}
use Rattle.tor_board.proofs.Ties.{opens_so, seal_is}
use Rattle.tor_board.specs.Stepping as board
use Rattle.tor_board.proofs.laws.rule_law.Goals as goal

pub returns : goal.returns
returns g c = record {
  rule = λ shape state kept. kept;
  begins = opens_so;
  steps = λ shape st. (
    look_is shape st,
    claim_is shape st,
    hand_is shape st g.J.Handing.tree g.J.Handing.unit g.J.Handing.hash,
    arrive_is shape st,
    seal_is shape st,
    fail_is shape st,
  );
  merges = merge_is;
  cut = λ shape s id v has two idle. board.splits _ two idle refl refl;
  joined = λ shape s id v has other w at apart free free'. board.joins _ other w at apart free free' refl refl;
  board = λ b. (b.sized, b.shaped);
  seat = λ s. ((omega (arith, s.roomy.0, s.same.0), s.idle), s.same.2);
}
