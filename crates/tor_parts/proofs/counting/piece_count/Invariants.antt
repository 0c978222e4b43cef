-- the pieces of the files so far
use Rattle.std.proofs.Common.{◌≡◌, ◌≤◌, ◌*◌, ◌^◌, take}
use Rattle.tor_parts.specs.Joining.{pieces_of_lengths}
use Rattle.tor_parts.proofs.counting.piece_count.Given as goal

abbrev pub invariant-lengths : goal.invariant-lengths
invariant-lengths l = record {
  counted : l.count ≡ pieces_of_lengths l.piece_length (take l.length-index l.lengths);
  small : l.count ≤ l.length-index * 2 ^ 64;
}
