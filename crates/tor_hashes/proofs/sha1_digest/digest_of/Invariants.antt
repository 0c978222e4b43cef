use Rattle.std.proofs.Common.{◌≡◌, ◌*◌, length, take}
use Rattle.sha1.specs.Sha1.{digest_bytes}
use Rattle.tor_hashes.proofs.sha1_digest.digest_of.Given as goal

abbrev pub invariant-words : goal.invariant-words
invariant-words l = (length l.bytes ≡ 20) × (take (4 * l.i) l.bytes ≡ digest_bytes l.words l.i)
