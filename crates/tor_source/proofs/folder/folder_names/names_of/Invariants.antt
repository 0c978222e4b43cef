use Rattle.std.proofs.Common.{◌≡◌, map}
use Rattle.std.specs.Prelude.{vec_items}
use Rattle.std.specs.Io.Iter.{split_byte, split_known_bytes}
use Rattle.tor_source.proofs.Pieces.{HasRead}
use Rattle.tor_source.proofs.folder.folder_names.names_of.Given as goal

abbrev pub invariant-loop-name : goal.invariant-loop-name
invariant-loop-name g l =
    (split_byte l.name-iterator ≡ 0)
    × HasRead (g.B.Read.remaining l.fn.folder) (split_known_bytes g.B.Read.remaining l.name-iterator)
    (map vec_items l.names.items)
