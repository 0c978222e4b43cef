-- those so far
use Rattle.std.proofs.Common.{◌≡◌, ◌++◌, map, take}
use Rattle.std.specs.Prelude.{vec_items}
use Rattle.std.specs.List.{filter}
use Rattle.tor_source.specs.Extra.{is_extra}
use Rattle.tor_source.specs.Places.{names_bytes}
use Rattle.tor_source.proofs.folder.extra.add_extra_files.Given as goal

abbrev pub invariant-taken : goal.invariant-taken
invariant-taken l =
    map vec_items l.extra.items
    ≡ map vec_items l.fn.extra.items
    ++ filter (is_extra (map vec_items l.known)) (map names_bytes (take l.path-index l.taken))
