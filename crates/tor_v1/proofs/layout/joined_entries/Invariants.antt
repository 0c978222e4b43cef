use Rattle.std.proofs.Common.{◌≡◌, map, take}
use Rattle.tor_v1.specs.Entries.{file_entry}
use Rattle.tor_v1.proofs.layout.joined_entries.Given as goal

abbrev pub invariant-loop-path : goal.invariant-loop-path
invariant-loop-path l = l.entries.items ≡ map file_entry (take l.path-index l.files)
