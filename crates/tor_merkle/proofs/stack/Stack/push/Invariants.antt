-- the digits so far were 1, and the top is the root of all hashes that they count and the new one
use Rattle.tor_merkle.proofs.Names.{◌≡◌, ◌+◌, ◌-◌, ◌*◌, ◌^◌, ◌<◌, ◌≤◌, node}
use Rattle.tor_merkle.proofs.stack.Stack.push.Given as goal

abbrev pub invariant-carries : goal.invariant-carries
invariant-carries l = record {
  room : l.self-inside.count < 2 ^ (36 - l.self-inside.level);
  low : l.digit ≤ 36;
  digits : l.self-inside.count + 1 ≡ (l.rest + 1) * 2 ^ l.digit;
  root : l.top ≡ node l.self-inside.level l.pushed.items l.digit l.rest;
}

abbrev pub decreases-carries : goal.decreases-carries
decreases-carries l = l.rest
