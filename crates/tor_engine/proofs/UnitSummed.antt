-- What a share's units sum up to, of a steady source.
use Rattle.std.proofs.Common.{◌<◌, ℕ, List, [], append-nil, ap, cond, get_or, length, subst, sym}
use Rattle.std.proofs.Common.{◌∙◌}
use Rattle.std.proofs.lemmas.List.Elements.{All-from_recursion}
use Rattle.std.specs.List.{All, AllByRecursion}
use Rattle.tor_plan.specs.Content.{unit_content}
use Rattle.tor_plan.specs.PlanFacts.{IsPlan, PlanFacts}
use Rattle.tor_source.specs.Source.{SourceFacts}
use Rattle.tor_tree.specs.Kinds.{has_v1}
use Rattle.tor_v1.specs.Piece.{piece_sums}
use Rattle.tor_sums.specs.Contents.{contents_in}
use Rattle.tor_sums.specs.UnitSums.{IsUnitSums, bare_node, unit_at}
use Rattle.tor_sums.specs.UnitNodes.{level_of, nodes_of_unit}
use Rattle.tor_sums.specs.declared.unit_sums.UnitSums.{UnitSums}
use Rattle.tor_sums.specs.steps.Reads.{HasLengths, HasParts}
use Rattle.tor_sums.specs.steps.Run.{SumsUpUnit}
use Rattle.tor_engine.specs.steps.Taken.{IsSumOf}
use Rattle.tor_engine.proofs.Counts.{each_more}
use Rattle.tor_sums.proofs.Parts.{unit_there}
use Rattle.tor_sums.proofs.Whole.{units_of_plan}

module _ {F : Type 0} (is_steady : SourceFacts F → Type 0) (plan : PlanFacts) (is : IsPlan plan)
    (facts : SourceFacts F) (steady : is_steady facts) (fit : HasLengths plan facts) where
  abbrev contents : List (List ℕ)
  contents = contents_in facts (length plan.lengths)

  pub unit_has : (n : ℕ) → n < length plan.units → HasParts facts (unit_at plan.units n).parts
  unit_has n below =
      unit_there facts plan fit (unit_at plan.units n)
      (units_of_plan plan is n (record { zeros = 0; parts = [] }) below)

  is_unit_sums : (sums : UnitSums) → IsSumOf (λ (one : UnitSums). one.unit) (SumsUpUnit is_steady plan) plan.units sums
      → IsUnitSums plan contents sums
  is_unit_sums sums of =
      let unit = unit_at plan.units sums.unit in
      let parts = append-nil unit.parts in
      let all = of.1.sums contents fit
      (of.1.are.steady facts steady (subst (HasParts facts) (sym parts) (unit_has sums.unit of.0))) in
      record {
        number = of.0;
        node = λ trees.
            all.nodes trees
            ∙ append-nil (nodes_of_unit plan.piece_length (level_of plan.trees) contents unit);
        bare = λ none. ap (λ ns. get_or ns 0 bare_node) (all.bare none);
        pieces = all.pieces
            ∙ ap (λ xs. cond (has_v1 plan.kind) xs []) (append-nil
            (piece_sums plan.piece_length (unit_content contents unit)));
      }

  pub are_unit_sums : (list : List UnitSums)
      → AllByRecursion (IsSumOf (λ (one : UnitSums). one.unit) (SumsUpUnit is_steady plan) plan.units) list
      → All (IsUnitSums plan contents) list
  are_unit_sums list each =
      All-from_recursion (IsUnitSums plan contents) list
      (each_more (IsSumOf (λ (one : UnitSums). one.unit) (SumsUpUnit is_steady plan) plan.units)
      (IsUnitSums plan contents) list is_unit_sums each)
