-- the hashes that came so far were joined
use Rattle.std.proofs.Common.{◌≡◌, ◌+◌, ◌*◌, ◌≤◌, ◌++◌, take, vec_len, vec_capacity}
use Rattle.std.specs.List.{flat_map}
use Rattle.tor_v1.proofs.runs.push_eight.Given as goal

abbrev pub invariant-hashes : goal.invariant-hashes
invariant-hashes l = record {
  joined : l.sums.items ≡ l.initial.sums.items ++ flat_map (λ x. x) (take l.hash-index l.hashes);
  len : vec_len l.sums ≡ vec_len l.initial.sums + 20 * l.hash-index;
  capacity : vec_capacity l.initial.sums ≤ vec_capacity l.sums;
}
