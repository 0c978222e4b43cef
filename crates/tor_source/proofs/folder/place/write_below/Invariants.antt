use Rattle.std.proofs.Common.{◌≡◌, take}
use Rattle.tor_source.specs.Places.{place_below}
use Rattle.tor_source.proofs.folder.place.write_below.Given as goal

abbrev pub invariant-loop-name : goal.invariant-loop-name
invariant-loop-name _ l = l.text.bytes ≡ place_below l.place (take l.name-index l.names)
