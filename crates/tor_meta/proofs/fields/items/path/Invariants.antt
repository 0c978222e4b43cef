-- The items so far are the names so far.
use Rattle.std.proofs.Common.{◌≡◌, map, take}
use Rattle.tor_bencode.specs.Data.{string}
use Rattle.tor_bencode.specs.View.{view}
use Rattle.tor_meta.proofs.fields.items.path.Given as goal

abbrev pub invariant-loop-name : goal.invariant-loop-name
invariant-loop-name l = map view l.items.items ≡ map string (take l.name-index l.names)
