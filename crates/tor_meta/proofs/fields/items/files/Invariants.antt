-- The items so far are those of the entries so far.
use Rattle.std.proofs.Common.{◌≡◌, map, take}
use Rattle.tor_bencode.specs.View.{view}
use Rattle.tor_spec.specs.FilesList.{entry_dictionary}
use Rattle.tor_meta.proofs.fields.items.files.Given as goal

abbrev pub invariant-loop-entry : goal.invariant-loop-entry
invariant-loop-entry l = map view l.items.items ≡ map entry_dictionary (take l.entry-index l.entries)
