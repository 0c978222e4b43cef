-- the hash was put as often as the loop went
use Rattle.std.proofs.Common.{◌≡◌, ◌+◌, ◌*◌, ◌≤◌, ◌++◌, replicate, vec_len, vec_capacity}
use Rattle.std.specs.List.{flat_map}
use Rattle.tor_v1.proofs.sums.push_often.Given as goal

abbrev pub invariant-pieces : goal.invariant-pieces
invariant-pieces l = record {
  joined : l.sums.items ≡ l.initial.sums.items ++ flat_map (λ x. x) (replicate l.counter l.sum);
  len : vec_len l.sums ≡ vec_len l.initial.sums + 20 * l.counter;
  capacity : vec_capacity l.initial.sums ≤ vec_capacity l.sums;
}
