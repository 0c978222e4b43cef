-- the names so far, and those that are left
use Rattle.std.proofs.Common.{◌≡◌, ℕ, List, length}
use Rattle.tor_meta.specs.PlanText.{path_text}
use Rattle.tor_meta.specs.steps.PlanParts.{IsLeft}
use Rattle.tor_tree.specs.Path.{IsFilePath}
use Rattle.tor_meta.proofs.plans.plan_reading.path_of.Given as goal

abbrev pub invariant-names : goal.invariant-names
invariant-names l =
    (path : List (List ℕ)) → IsFilePath path → l.fn.text ≡ path_text path → IsLeft path l.names.items l.rest

abbrev pub decreases-names : goal.decreases-names
decreases-names l = length l.rest
