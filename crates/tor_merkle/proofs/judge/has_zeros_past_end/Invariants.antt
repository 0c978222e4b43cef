-- the levels so far passed
use Rattle.tor_merkle.proofs.Names.{◌≡◌, ℕ, ◌<◌, true, is_zero_past_end}
use Rattle.tor_merkle.proofs.judge.has_zeros_past_end.Given as goal

abbrev pub invariant-siblings : goal.invariant-siblings
invariant-siblings l = record {
  level : l.above ≡ l.sibling-index;
  passed : (k : ℕ) → k < l.above → is_zero_past_end l.level l.count l.index l.siblings k ≡ true;
}
