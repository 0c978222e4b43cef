-- The letters of a file (BEP 47, "attr") that a torrent is made with: `x` for an executable file, `h` for a hidden one.
use Rattle.std.specs.Prelude.{ℕ, false, List, Option, Some, None, codes, if◌then◌else◌}
use Rattle.tor_tree.specs.declared.attr.Attr.{Attr}

-- no letter is set (BEP 47, "attr")
abbrev pub no_letters : Attr
no_letters = record { exec = false; hidden = false }

-- what `attr` says: `h`, `x` or `hx`; none if no letter is set (BEP 47, "attr")
abbrev pub letters : Attr → Option (List ℕ)
letters attr =
    if attr.hidden then Some (if attr.exec then codes "hx" else codes "h") else (
    if attr.exec then Some (codes "x") else None)
