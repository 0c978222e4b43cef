-- The hashes of lots, one lot after another.
use Rattle.std.proofs.Common.{◌≡◌, ◌<◌, ◌≤◌, ℕ, zero, suc, ◌+◌, Bool, true, false, cond, List, [], ◌++◌, refl}
use Rattle.std.proofs.Common.{ap, ap₂}
use Rattle.std.proofs.Common.{subst, sym, ◌∙◌, arith}
use Rattle.std.proofs.lemmas.Grind.{flat_map-append}
use Rattle.std.specs.List.{flat_map, range_with_len}
use Rattle.tor_engine.specs.Rows.{IsRowOf, row_in, sums_of_pieces}
use Rattle.tor_sums.specs.UnitNodes.{Node, level_of, nodes_of_unit}
use Rattle.tor_plan.specs.Content.{unit_content}
use Rattle.tor_plan.specs.PlanFacts.{PlanFacts}
use Rattle.tor_plan.specs.declared.units.PlanUnit.{PlanUnit}
use Rattle.tor_tree.specs.Kinds.{has_v1}
use Rattle.tor_v1.specs.Piece.{piece_sums}
use Rattle.tor_parts.specs.Dealing.{dealt}
use Rattle.tor_parts.proofs.DealtUnits.{all_dealt}

-- two lists where a test holds, else none
both_if : (b : Bool) (xs ys p q : List ℕ) → p ≡ cond b xs [] → q ≡ cond b ys [] → p ++ q ≡ cond b (xs ++ ys) []
both_if true xs ys p q one other = ap₂ (λ a c. a ++ c) one other
both_if false xs ys p q one other = ap₂ (λ a c. a ++ c) one other

none_if : (b : Bool) → ◌≡◌ {A = List ℕ} [] (cond b [] [])
none_if true = refl
none_if false = refl

module _ (plan : PlanFacts) (contents : List (List ℕ)) where
  abbrev nodes : List PlanUnit → List Node
  nodes units = flat_map (nodes_of_unit plan.piece_length (level_of plan.trees) contents) units

  row_none : IsRowOf plan contents [] [] []
  row_none = record { nodes = λ trees. refl; bare = λ none. refl; sums = none_if (has_v1 plan.kind) }

  row_both : (xs ys : List PlanUnit) (h i : List (List ℕ)) (p q : List ℕ) → IsRowOf plan contents xs h p
      → IsRowOf plan contents ys i q → IsRowOf plan contents (xs ++ ys) (h ++ i) (p ++ q)
  row_both xs ys h i p q one other = record {
    nodes = λ trees.
        ap₂ (λ a c. a ++ c) (one.nodes trees) (other.nodes trees)
        ∙ sym (flat_map-append row_in (nodes xs) (nodes ys))
        ∙ ap (flat_map row_in)
        (sym (flat_map-append (nodes_of_unit plan.piece_length (level_of plan.trees) contents) xs ys));
    bare = λ none. ap₂ (λ a c. a ++ c) (one.bare none) (other.bare none);
    sums =
        both_if (has_v1 plan.kind) (sums_of_pieces plan contents xs) (sums_of_pieces plan contents ys) p q one.sums
        other.sums
        ∙ ap (λ s. cond (has_v1 plan.kind) s [])
        (sym (flat_map-append (λ unit. piece_sums plan.piece_length (unit_content contents unit)) xs ys));
  }

  module _ (units : ℕ → List PlanUnit) (hashes : ℕ → List (List ℕ)) (pieces : ℕ → List ℕ) where
    rows : (a n : ℕ)
        → ((lot : ℕ) → a ≤ lot → lot < a + n → IsRowOf plan contents (units lot) (hashes lot) (pieces lot))
        → IsRowOf plan contents (flat_map units (range_with_len a n)) (flat_map hashes (range_with_len a n))
        (flat_map pieces (range_with_len a n))
    rows a zero each = row_none
    rows a (suc n) each =
        row_both (units a) (flat_map units (range_with_len (a + 1) n)) (hashes a)
        (flat_map hashes (range_with_len (a + 1) n)) (pieces a) (flat_map pieces (range_with_len (a + 1) n))
        (each a (omega arith) (omega arith))
        (rows (a + 1) n (λ lot from to. each lot (omega (arith, from)) (omega (arith, to))))

  pub joined : (lots : ℕ) (hashes : ℕ → List (List ℕ)) (pieces : ℕ → List ℕ) → 0 < lots
      → ((lot : ℕ) → lot < lots
      → IsRowOf plan contents (dealt lots lot plan.units) (hashes lot) (pieces lot))
      → IsRowOf plan contents plan.units (flat_map hashes (range_with_len 0 lots))
      (flat_map pieces (range_with_len 0 lots))
  joined lots hashes pieces some each =
      subst (λ (units : List PlanUnit). IsRowOf plan contents units (flat_map hashes (range_with_len 0 lots))
      (flat_map pieces (range_with_len 0 lots))) (all_dealt lots plan.units some)
      (rows (λ lot. dealt lots lot plan.units) hashes pieces 0 lots
      (λ lot from to. each lot (omega (arith, to))))
