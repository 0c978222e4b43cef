-- the names so far
use Rattle.std.proofs.Common.{◌≡◌, take}
use Rattle.tor_meta.specs.PlanText.{path_text}
use Rattle.tor_meta.proofs.plans.plan_text.path_text.Given as goal

abbrev pub invariant-names : goal.invariant-names
invariant-names l = l.bytes.items ≡ path_text (take l.index l.names)
