-- no more was fed than the bytes so far
use Rattle.std.proofs.Common.{◌-◌, ◌≤◌, length}
use Rattle.tor_tests_low.proofs.merkle.feeds.fed_of.Given as goal

abbrev pub invariant-parts : goal.invariant-parts
invariant-parts l = record {
  within : l.start ≤ length l.bytes;
  fed : length l.feed.bytes ≤ l.start;
}

abbrev pub decreases-parts : goal.decreases-parts
decreases-parts l = length l.bytes - l.start
