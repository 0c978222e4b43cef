use Rattle.std.proofs.Common.{◌≤◌, length}
use Rattle.tor_explain.proofs.line.Line.cite_names.Given as goal

abbrev pub invariant-names : goal.invariant-names
invariant-names l = length l.fn.self ≤ length l.self
