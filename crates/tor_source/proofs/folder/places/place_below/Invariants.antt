use Rattle.std.proofs.Common.{◌≡◌, take}
use Rattle.std.specs.String.{string_bytes}
use Rattle.tor_source.specs.Places.{place_below}
use Rattle.tor_source.proofs.folder.places.place_below.Given as goal

abbrev pub invariant-loop-name : goal.invariant-loop-name
invariant-loop-name l = string_bytes l.below ≡ place_below l.place (take l.name-index l.names)
