-- a part for each place so far
use Rattle.std.proofs.Common.{◌≡◌, length}
use Rattle.tor_cli.proofs.lots.join.read_parts.Given as goal

abbrev pub invariant-places : goal.invariant-places
invariant-places l = length l.parts.items ≡ l.place-index
