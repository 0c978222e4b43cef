-- the bytes of the rows so far
use Rattle.std.proofs.Common.{◌≡◌, ◌≤◌, ◌*◌, ◌^◌, length, take}
use Rattle.tor_parts.specs.JoinedRows.{sums_of}
use Rattle.tor_parts.proofs.counting.sum_count.Given as goal

abbrev pub invariant-rows : goal.invariant-rows
invariant-rows l = record {
  counted : l.count ≡ length (sums_of (take l.row-index l.rows));
  small : l.count ≤ l.row-index * 2 ^ 64;
}
