-- The trees of files, one after the other. Only clauses of the crates that hash cite these.
use Rattle.std.specs.Prelude.{◌≡◌, ℕ, true, false, List, drop, length, map, Option, None, Some}
use Rattle.std.specs.List.{flat_map}
use Rattle.tor_merkle.specs.Layer.{piece_layer, root_of}
use Rattle.tor_plan.specs.Forest.{trees_from}
use Rattle.tor_tree.specs.Kinds.{has_v2}
use Rattle.tor_tree.specs.declared.kinds.Kind.{Kind}
use Rattle.tor_sums.specs.Sums.{lists_of}
use Rattle.tor_sums.specs.declared.unit_sums.UnitSums.{UnitSums}
use Rattle.tor_sums.specs.steps.Hashes.{IsCut, nodes_of_file}
use Rattle.tor_sums.specs.steps.Roots.{roots_of_trees}
use Rattle.tor_sums.specs.steps.Run.{node_in}
use Rattle.tor_sums.specs.declared.trees.Trees.{Trees}

-- root and layer of each content
pub record AreTrees (piece_length : ℕ) (contents : List (List ℕ)) (trees : Trees) : Type 0 where
  pub roots : trees.roots.items ≡ map root_of contents
  pub layers : lists_of trees.layers.items ≡ map (λ content. piece_layer content piece_length) contents

-- where the kind has trees
abbrev pub AreTreesOf : Kind → ℕ → List (List ℕ) → Option Trees → Type 0
AreTreesOf kind piece_length contents None = has_v2 kind ≡ false
AreTreesOf kind piece_length contents (Some trees) =
    (has_v2 kind ≡ true) × AreTrees piece_length contents trees

-- the last of the units of a plan are those of these contents, and the last of the trees over its units are theirs
pub record AreLeftInPlan (level : Option ℕ) (piece_length : ℕ) (contents : List (List ℕ)) (rest : List UnitSums)
    (tops : List (Option (List ℕ))) : Type 0 where
  pub size : ℕ
  pub cut : IsCut piece_length size level (map length contents)
  pub nodes : map node_in rest ≡ flat_map (nodes_of_file piece_length size level) contents
  pub units : List UnitSums
  pub before : ℕ
  pub left : rest ≡ drop before units
  pub trees : tops
      ≡ roots_of_trees (map (λ unit. unit.hash) units) (trees_from size before (map length contents))
