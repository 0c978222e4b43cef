-- The values so far.
use Rattle.std.proofs.Common.{◌≡◌, map, take}
use Rattle.serde_json.specs.View.{view}
use Rattle.tor_cli.specs.recheck.Extra.{extra_data}
use Rattle.tor_cli.proofs.recheck.extra_text.paths_value.Given as goal

abbrev pub invariant-paths : goal.invariant-paths
invariant-paths l = map view l.values.items ≡ map extra_data (take l.path-index l.extra)
