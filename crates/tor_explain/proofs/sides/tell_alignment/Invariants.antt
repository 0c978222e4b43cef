use Rattle.std.proofs.Common.{◌≡◌}
use Rattle.tor_explain.proofs.sides.tell_alignment.Given as goal

-- nothing was told so far
abbrev pub invariant-entries : goal.invariant-entries
invariant-entries l = l.line ≡ l.fn.line
