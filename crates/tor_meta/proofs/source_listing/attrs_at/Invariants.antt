use Rattle.std.proofs.Common.{◌≡◌, map, take}
use Rattle.tor_meta.specs.Make.{letters_at}
use Rattle.tor_meta.proofs.source_listing.attrs_at.Given as goal

abbrev pub invariant-loop-index : goal.invariant-loop-index
invariant-loop-index l = l.attrs.items ≡ map (letters_at l.files) (take l.index-index l.indices)
