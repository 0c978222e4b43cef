use Rattle.tor_check.proofs.Names.{◌≡◌, true, map, take, list_all, view, is_name, text_of}
use Rattle.tor_check.proofs.listed.read_names.Given as goal

-- the texts so far are names
abbrev pub invariant-texts : goal.invariant-texts
invariant-texts l =
    (l.names.items ≡ map text_of (map view (take l.text-index l.texts)))
    × (list_all is_name (map view (take l.text-index l.texts)) ≡ true)
