-- What the contents of files sum up to.
use Rattle.std.specs.Prelude.{◌≡◌, ℕ, List, [], map, length, None, Vec, if◌then◌else◌}
use Rattle.std.specs.declared.alloc.Global.{Global}
use Rattle.std.specs.List.{flat_map}
use Rattle.tor_merkle.specs.Layer.{root_of, piece_layer}
use Rattle.tor_plan.specs.Content.{unit_content}
use Rattle.tor_plan.specs.PlanFacts.{PlanFacts}
use Rattle.tor_tree.specs.Kinds.{has_v1, has_v2}
use Rattle.tor_tree.specs.declared.kinds.Kind.{Kind}
use Rattle.tor_v1.specs.Piece.{piece_sums}
use Rattle.tor_sums.specs.declared.sums.Sums.{Sums}

abbrev pub lists_of : List (Vec (List ℕ) Global) → List (List (List ℕ))
lists_of layers = map (λ layer. layer.items) layers

-- the bytes and zeros of the units of a plan, in order
abbrev pub plan_content : PlanFacts → List (List ℕ) → List ℕ
plan_content plan contents = flat_map (unit_content contents) plan.units

-- lengths, roots, layers and pieces of contents. There are roots and layers if the kind has trees; if it has pieces,
-- they are the SHA-1 of each piece of the joined content: these contents, and the zeros of padding between them (BEP
-- 52, "pieces root", "piece layers"; BEP 3, "info dictionary")
pub record AreSumsOf (kind : Kind) (piece_length : ℕ) (contents : List (List ℕ)) (joined : List ℕ)
    (sums : Sums) : Type 0 where
  pub lengths : sums.lengths.items ≡ map length contents
  pub roots : sums.roots.items ≡ map (λ content. if has_v2 kind then root_of content else None) contents
  pub layers : lists_of sums.layers.items
      ≡ map (λ content. if has_v2 kind then piece_layer content piece_length else []) contents
  pub pieces : sums.pieces.items ≡ (if has_v1 kind then piece_sums piece_length joined else [])

-- those of a plan's files. Their units are the joined content (BEP 52, "pieces root", "piece layers"; BEP 3, "info
-- dictionary")
abbrev pub AreSumsOfPlan : PlanFacts → List (List ℕ) → Sums → Type 0
AreSumsOfPlan plan contents sums =
    AreSumsOf plan.kind plan.piece_length contents (plan_content plan contents) sums

-- those of some contents of the plan's lengths (BEP 52, "pieces root", "piece layers"; BEP 3, "info dictionary")
abbrev pub AreSumsOfSome : PlanFacts → Sums → Type 0
AreSumsOfSome plan sums =
    (contents : List (List ℕ)) × (map length contents ≡ plan.lengths) × AreSumsOfPlan plan contents sums
