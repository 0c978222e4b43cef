-- the digits below this one are 0
use Rattle.tor_merkle.proofs.Names.{◌≡◌, ◌*◌, ◌^◌, ◌<◌}
use Rattle.tor_merkle.proofs.digits.lowest_one.Given as goal

abbrev pub invariant-zeros : goal.invariant-zeros
invariant-zeros l = record {
  some : 0 < l.odd;
  whole : l.count ≡ l.odd * 2 ^ l.digit;
}

abbrev pub decreases-zeros : goal.decreases-zeros
decreases-zeros l = l.odd
