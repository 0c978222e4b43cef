use Rattle.std.proofs.Common.{◌≡◌, map, take}
use Rattle.tor_meta.proofs.from_streams.attrs_of.Given as goal

abbrev pub invariant-loop-attr : goal.invariant-loop-attr
invariant-loop-attr l = l.attrs.items ≡ map (λ file. file.1) (take l.attr-index l.files)
