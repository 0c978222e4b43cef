use Rattle.std.proofs.Common.{◌≤◌, length}
use Rattle.tor_explain.proofs.line.Line.cite_bytes.Given as goal

abbrev pub invariant-bytes : goal.invariant-bytes
invariant-bytes l = length l.fn.self ≤ length l.self
