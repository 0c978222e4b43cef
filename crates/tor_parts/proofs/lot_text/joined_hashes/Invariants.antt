-- the hashes so far
use Rattle.std.proofs.Common.{◌≡◌, take}
use Rattle.std.specs.List.{AllByRecursion}
use Rattle.tor_parts.specs.LotText.{Is32, joined}
use Rattle.tor_parts.proofs.lot_text.joined_hashes.Given as goal

abbrev pub invariant-hashes : goal.invariant-hashes
invariant-hashes l = record {
  joined : l.bytes.items ≡ joined (take l.hash-index l.hashes);
  each : AllByRecursion Is32 (take l.hash-index l.hashes);
}
