-- those so far
use Rattle.std.proofs.Common.{◌≡◌, ◌++◌, map, take}
use Rattle.std.specs.Prelude.{vec_items}
use Rattle.std.specs.List.{filter}
use Rattle.tor_source.specs.Extra.{is_extra}
use Rattle.tor_source.specs.Named.{path_of}
use Rattle.tor_source.proofs.folder.extra.add_extra_refused.Given as goal

abbrev pub invariant-refused : goal.invariant-refused
invariant-refused l =
    map vec_items l.extra.items
    ≡ map vec_items l.fn.extra.items
    ++ filter (is_extra (map vec_items l.known)) (map path_of (take l.one-index l.refused))
