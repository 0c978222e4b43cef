-- The lines so far.
use Rattle.std.proofs.Common.{◌≡◌, take}
use Rattle.std.specs.Prelude.{string_bytes}
use Rattle.tor_cli.specs.recheck.Extra.{extra_lines}
use Rattle.tor_cli.proofs.recheck.extra_text.extra_lines.Given as goal

abbrev pub invariant-paths : goal.invariant-paths
invariant-paths l = string_bytes l.lines ≡ extra_lines (take l.path-index l.extra)
