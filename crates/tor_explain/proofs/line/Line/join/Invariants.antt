use Rattle.std.proofs.Common.{◌≤◌, length}
use Rattle.tor_explain.proofs.line.Line.join.Given as goal

abbrev pub invariant-characters : goal.invariant-characters
invariant-characters l = length l.fn.self ≤ length l.self
