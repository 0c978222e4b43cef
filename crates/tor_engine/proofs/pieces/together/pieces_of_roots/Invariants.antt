-- those of the roots so far
use Rattle.std.proofs.Common.{◌≡◌, map, take, Some}
use Rattle.tor_engine.specs.steps.Unsummed.{found_of}
use Rattle.tor_engine.proofs.pieces.together.pieces_of_roots.Given as goal

abbrev pub invariant-roots : goal.invariant-roots
invariant-roots l = l.found.items ≡ map (λ root. found_of l.kind (Some root)) (take l.root-index l.roots)
