use Rattle.std.proofs.Common.{◌≡◌}
use Rattle.tor_explain.proofs.clashes.tell_nested.Given as goal

-- nothing was told so far
abbrev pub invariant-paths : goal.invariant-paths
invariant-paths l = l.line ≡ l.fn.line
