use Rattle.std.proofs.Common.{◌≡◌}
use Rattle.tor_explain.proofs.list.tell_path.Given as goal

-- nothing was told so far
abbrev pub invariant-names : goal.invariant-names
invariant-names l = l.line ≡ l.fn.line
