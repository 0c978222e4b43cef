use Rattle.std.proofs.Common.{◌≡◌, map, take}
use Rattle.std.specs.Prelude.{vec_items}
use Rattle.tor_source.specs.Places.{names_bytes}
use Rattle.tor_source.proofs.folder.extra.texts_of.Given as goal

abbrev pub invariant-paths : goal.invariant-paths
invariant-paths l = map vec_items l.texts.items ≡ map names_bytes (take l.path-index l.paths)
