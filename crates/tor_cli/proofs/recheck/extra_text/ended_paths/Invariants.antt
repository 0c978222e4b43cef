-- The paths so far.
use Rattle.std.proofs.Common.{◌≡◌, take}
use Rattle.tor_cli.specs.recheck.Extra.{ended_paths}
use Rattle.tor_cli.proofs.recheck.extra_text.ended_paths.Given as goal

abbrev pub invariant-paths : goal.invariant-paths
invariant-paths l = l.text.items ≡ ended_paths (take l.path-index l.extra)
