-- The bytes so far.
use Rattle.std.proofs.Common.{◌≡◌, take}
use Rattle.std.specs.Prelude.{string_bytes}
use Rattle.tor_report.specs.Escape.{in_ascii}
use Rattle.tor_cli.proofs.text.escape.in_ascii.Given as goal

abbrev pub invariant-bytes : goal.invariant-bytes
invariant-bytes l = string_bytes l.line ≡ in_ascii (take l.byte-index l.bytes)
