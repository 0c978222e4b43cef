use Rattle.tor_check.proofs.Names.{◌≡◌, map, take, files_from, entry_of_file}
use Rattle.tor_check.proofs.views.entries_of.Given as goal

-- the entries so far
abbrev pub invariant-listed : goal.invariant-listed
invariant-listed l = l.entries.items ≡ map entry_of_file (files_from (take l.file-index l.listed))
