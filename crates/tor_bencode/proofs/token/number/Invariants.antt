use Rattle.tor_bencode.proofs.Names.{◌≡◌, ◌<◌, ◌^◌, drop, number, number_after}
use Rattle.tor_bencode.proofs.token.number.Given as goal

abbrev pub invariant-loop-digit : goal.invariant-loop-digit
invariant-loop-digit l = (number_after l.n (drop l.digit-index l.digits) ≡ number l.digits) × (l.n < 2 ^ 64)
