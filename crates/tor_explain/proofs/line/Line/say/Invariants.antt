use Rattle.std.proofs.Common.{◌<◌, ◌≤◌, IsTrue, length}
use Rattle.tor_explain.specs.Plain.{begins_plain}
use Rattle.tor_explain.proofs.line.Line.say.Given as goal

abbrev pub invariant-words : goal.invariant-words
invariant-words l = record {
  longer : length l.fn.self ≤ length l.self;
  said : 0 < l.byte-index → IsTrue (begins_plain l.words) → 0 < length l.self;
}
