use Rattle.std.proofs.Common.{◌≡◌, length, map, take}
use Rattle.tor_meta.proofs.contents.lengths.Given as goal

abbrev pub invariant-loop-content : goal.invariant-loop-content
invariant-loop-content l = l.lengths.items ≡ map (λ content. length content.items) (take l.content-index l.contents)
