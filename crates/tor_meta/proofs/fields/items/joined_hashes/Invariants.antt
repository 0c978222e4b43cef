-- The bytes so far are the hashes so far, joined.
use Rattle.std.proofs.Common.{◌≡◌, take}
use Rattle.std.specs.List.{flat_map}
use Rattle.tor_meta.proofs.fields.items.joined_hashes.Given as goal

abbrev pub invariant-loop-hash : goal.invariant-loop-hash
invariant-loop-hash l = l.bytes.items ≡ flat_map (λ hash. hash) (take l.hash-index l.hashes)
