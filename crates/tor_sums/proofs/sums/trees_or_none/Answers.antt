-- if there are no trees, each file has no root and no hash of a layer
use Rattle.std.proofs.Common.{◌≡◌, ℕ, false, cond, List, [], ◌∷◌, None, map, length, replicate, Result, Ok, Err, IfOk}
use Rattle.std.proofs.Common.{refl, ap, sym, subst, ◌∙◌}
use Rattle.tor_merkle.specs.Layer.{piece_layer, root_of}
use Rattle.tor_tree.specs.Kinds.{has_v2}
use Rattle.tor_tree.specs.declared.kinds.Kind.{Kind}
use Rattle.tor_sums.specs.Sums.{lists_of}
use Rattle.tor_sums.specs.declared.trees.Trees.{Trees}
use Rattle.tor_sums.specs.steps.Trees.{AreTreesOf}
use Rattle.tor_sums.proofs.sums.trees_or_none.Goals as goal

all_same : {X Y : Type 0} (y : Y) (xs : List X) → replicate (length xs) y ≡ map (λ x. y) xs
all_same y [] = refl
all_same y (x ∷ xs) = ap (λ ys. y ∷ ys) (all_same y xs)

module _ (kind : Kind) (p : ℕ) (contents : List (List ℕ)) where
  abbrev Roots : Trees → Type 0
  Roots all = all.roots.items ≡ map (λ content. cond (has_v2 kind) (root_of content) None) contents

  abbrev Layers : Trees → Type 0
  Layers all = lists_of all.layers.items ≡ map (λ content. cond (has_v2 kind) (piece_layer content p) []) contents

  bare : {E : Type 0} (count : ℕ) → length contents ≡ count → has_v2 kind ≡ false → (made : Result Trees E)
      → IfOk made (λ all. all.roots.items ≡ replicate count None)
      → IfOk made (λ all. lists_of all.layers.items ≡ replicate count [])
      → IfOk made (λ all. Roots all × Layers all)
  bare count counted none (Ok all) roots layers = (
    roots ∙ ap (λ n. replicate n None) (sym counted) ∙ all_same None contents
        ∙ ap (λ b. map (λ content. cond b (root_of content) None) contents) (sym none),
    layers ∙ ap (λ n. replicate n []) (sym counted) ∙ all_same [] contents
        ∙ ap (λ b. map (λ content. cond b (piece_layer content p) []) contents) (sym none),
  )
  bare count counted none (Err error) roots layers = tt

pub returns-in-Some : goal.returns-in-Some
returns-in-Some c = λ kind p contents count are.
    let is = subst (AreTreesOf kind p contents) c.in-Some.is are in (
      is.1.roots ∙ ap (λ b. map (λ content. cond b (root_of content) None) contents) (sym is.0),
      is.1.layers ∙ ap (λ b. map (λ content. cond b (piece_layer content p) []) contents) (sym is.0),
    )

pub returns-in-None : goal.returns-in-None
returns-in-None c = λ kind p contents count are.
    bare kind p contents c.args.count count (subst (AreTreesOf kind p contents) c.in-None.is are) c.no_trees.result
    c.no_trees.ensures.roots c.no_trees.ensures.layers
