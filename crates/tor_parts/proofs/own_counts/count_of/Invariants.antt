-- the pieces of the parts so far
use Rattle.std.proofs.Common.{◌≡◌, ◌≤◌, ◌*◌, ◌^◌, sum_by, take}
use Rattle.std.specs.Int.{div_ceil}
use Rattle.tor_parts.proofs.own_counts.count_of.Given as goal

abbrev pub invariant-parts : goal.invariant-parts
invariant-parts l = record {
  counted : l.count ≡ sum_by (λ part. div_ceil part.length l.piece_length) (take l.part-index l.parts);
  small : l.count ≤ l.part-index * 2 ^ 64;
}
