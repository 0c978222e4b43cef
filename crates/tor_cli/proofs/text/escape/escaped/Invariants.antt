-- The line has the characters so far.
use Rattle.std.proofs.Common.{◌≡◌}
use Rattle.std.specs.Prelude.{string_bytes}
use Rattle.std.specs.Str.{encode_utf8_all}
use Rattle.tor_report.specs.Escape.{escaped}
use Rattle.tor_cli.proofs.text.escape.escaped.Given as goal

abbrev pub invariant-loop-c : goal.invariant-loop-c
invariant-loop-c l = string_bytes l.line ≡ escaped (encode_utf8_all l.yielded)
