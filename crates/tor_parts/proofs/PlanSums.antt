-- The sums of the files of a plan, from the hashes of all its pieces.
use Rattle.std.proofs.Common.{◌≡◌, ℕ, Bool, true, false, cond, List, [], ◌∷◌, length, map, replicate, None, refl, ap}
use Rattle.std.proofs.Common.{ap₂}
use Rattle.std.proofs.Common.{sym, ◌∙◌, inl, inr}
use Rattle.std.proofs.lemmas.Bool.{cases_Bool}
use Rattle.std.proofs.lemmas.List.{length-map}
use Rattle.std.specs.List.{flat_map}
use Rattle.tor_engine.specs.Rows.{IsRowOf, hashes_of_file}
use Rattle.tor_sums.specs.Sums.{AreSumsOfPlan, lists_of}
use Rattle.tor_sums.specs.declared.sums.Sums.{Sums}
use Rattle.tor_engine.proofs.ProvedLaws.{rows_are_of_files, sums_are_of_files}
use Rattle.tor_merkle.specs.Layer.{piece_layer, root_of}
use Rattle.tor_plan.specs.PlanFacts.{IsPlan, PlanFacts}
use Rattle.tor_tree.specs.Kinds.{has_v1, has_v2}
use Rattle.tor_parts.specs.Joining.{layers_over, roots_over}
use Rattle.tor_parts.proofs.FileTrees.{layers_are, roots_are}
use Rattle.tor_parts.proofs.PlanUnits.{allowed_in}

-- two values of which a test asks for one, alike where it does
where_true : {X : Type 0} (b : Bool) (x y z : X) → (b ≡ true → x ≡ y) → cond b x z ≡ cond b y z
where_true true x y z same = same refl
where_true false x y z same = refl

all_same : {X Y : Type 0} (y : Y) (xs : List X) → replicate (length xs) y ≡ map (λ x. y) xs
all_same y [] = refl
all_same y (x ∷ xs) = ap (λ ys. y ∷ ys) (all_same y xs)

module _ (plan : PlanFacts) (is : IsPlan plan) (contents : List (List ℕ)) (fit : map length contents ≡ plan.lengths)
    (hashes : List (List ℕ)) (pieces : List ℕ) (row : IsRowOf plan contents plan.units hashes pieces) where
  abbrev p : ℕ
  p = plan.piece_length

  hashes_are : has_v2 plan.kind ≡ true → hashes ≡ flat_map (hashes_of_file p) contents
  hashes_are trees = row.nodes trees ∙ rows_are_of_files plan contents is trees fit

  roots_in : has_v2 plan.kind ≡ true → roots_over p plan.lengths hashes
      ≡ map (λ content. cond (has_v2 plan.kind) (root_of content) None) contents
  roots_in trees =
      ap₂ (roots_over p) (sym fit) (hashes_are trees) ∙ roots_are p (allowed_in plan is trees) contents
      ∙ ap (λ b. map (λ content. cond b (root_of content) None) contents) (sym trees)

  layers_in : has_v2 plan.kind ≡ true → layers_over p plan.lengths hashes
      ≡ map (λ content. cond (has_v2 plan.kind) (piece_layer content p) []) contents
  layers_in trees =
      ap₂ (layers_over p) (sym fit) (hashes_are trees) ∙ layers_are p (allowed_in plan is trees) contents
      ∙ ap (λ b. map (λ content. cond b (piece_layer content p) []) contents) (sym trees)

  counted : length plan.lengths ≡ length contents
  counted = ap length (sym fit) ∙ length-map contents length

  pub sums_are : (sums : Sums) → sums.lengths.items ≡ plan.lengths
      → (has_v2 plan.kind ≡ true → sums.roots.items ≡ roots_over p plan.lengths hashes)
      → (has_v2 plan.kind ≡ false → sums.roots.items ≡ replicate (length plan.lengths) None)
      → (has_v2 plan.kind ≡ true → lists_of sums.layers.items ≡ layers_over p plan.lengths hashes)
      → (has_v2 plan.kind ≡ false → lists_of sums.layers.items ≡ replicate (length plan.lengths) [])
      → sums.pieces.items ≡ pieces → AreSumsOfPlan plan contents sums
  sums_are sums lengths roots no_roots layers no_layers same = record {
    lengths = lengths ∙ sym fit;
    roots = elim (cases_Bool (has_v2 plan.kind)) [
      | inl trees ↦ roots trees ∙ roots_in trees
      | inr none ↦
          no_roots none ∙ ap (λ n. replicate n None) counted ∙ all_same None contents
          ∙ ap (λ b. map (λ content. cond b (root_of content) None) contents) (sym none)
    ];
    layers = elim (cases_Bool (has_v2 plan.kind)) [
      | inl trees ↦ layers trees ∙ layers_in trees
      | inr none ↦
          no_layers none ∙ ap (λ n. replicate n []) counted ∙ all_same [] contents
          ∙ ap (λ b. map (λ content. cond b (piece_layer content p) []) contents) (sym none)
    ];
    pieces = same ∙ row.sums
        ∙ where_true (has_v1 plan.kind) _ _ [] (λ there. sums_are_of_files plan contents is there fit);
  }
