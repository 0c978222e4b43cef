use Rattle.tor_check.proofs.Names.{◌≡◌, None, replicate}
use Rattle.tor_check.proofs.shared_layers.no_layers.Given as goal

-- as many as were counted
abbrev pub invariant-roots : goal.invariant-roots
invariant-roots l = l.layers.items ≡ replicate l.counter None
