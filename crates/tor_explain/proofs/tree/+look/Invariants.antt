use Rattle.std.proofs.Common.{◌≡◌}
use Rattle.tor_explain.proofs.tree.+look.Given as goal

-- nothing was told so far
abbrev pub invariant-tell_pairs-pairs : goal.invariant-tell_pairs-pairs
invariant-tell_pairs-pairs l = l.line ≡ l.fn.line
