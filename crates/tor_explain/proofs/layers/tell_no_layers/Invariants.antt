use Rattle.std.proofs.Common.{◌≡◌}
use Rattle.tor_explain.proofs.layers.tell_no_layers.Given as goal

-- nothing was told so far
abbrev pub invariant-files : goal.invariant-files
invariant-files l = l.line ≡ l.fn.line
