-- the parts so far
use Rattle.std.proofs.Common.{◌≡◌, ◌+◌, sum_by, take}
use Rattle.tor_sums.proofs.unit_sums.unit_length.Given as goal

abbrev pub invariant-parts : goal.invariant-parts
invariant-parts l = record {
  counted : l.count ≡ l.unit.zeros + sum_by (λ part. part.length + part.zeros) (take l.part-index l.part-items);
}
