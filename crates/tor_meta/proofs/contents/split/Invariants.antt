use Rattle.std.proofs.Common.{◌≡◌, map}
use Rattle.tor_meta.proofs.contents.split.Given as goal

abbrev pub invariant-loop-path : goal.invariant-loop-path
invariant-loop-path l =
    (l.paths.items ≡ map (λ file. file.0) l.yielded) × (l.contents.items ≡ map (λ file. file.1) l.yielded)
