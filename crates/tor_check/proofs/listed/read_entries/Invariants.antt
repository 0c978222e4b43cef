use Rattle.tor_check.proofs.Names.{◌≡◌, false, map, take, list_any, view, listed_entry, is_no_entry}
use Rattle.tor_check.proofs.listed.read_entries.Given as goal

-- the entries so far have their shape
abbrev pub invariant-entries : goal.invariant-entries
invariant-entries l =
    (l.listed.items ≡ map listed_entry (map view (take l.entry-index l.entries)))
    × (list_any is_no_entry (map view (take l.entry-index l.entries)) ≡ false)
