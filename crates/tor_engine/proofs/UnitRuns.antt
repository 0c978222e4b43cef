-- Units that are read one after the other.
use Rattle.std.proofs.Common.{◌≡◌, ℕ, List, [], ◌∷◌, ◌++◌, map, refl, ap₂, subst, sym, ◌∙◌}
use Rattle.std.proofs.lemmas.List.{map-append}
use Rattle.std.specs.List.{flat_map}
use Rattle.std.proofs.lemmas.Grind.{flat_map-append}
use Rattle.tor_plan.specs.Content.{unit_content}
use Rattle.tor_plan.specs.PlanFacts.{PlanFacts}
use Rattle.tor_plan.specs.declared.units.PlanUnit.{PlanUnit}
use Rattle.tor_source.specs.Source.{SourceFacts}
use Rattle.tor_tree.specs.Kinds.{has_v1}
use Rattle.tor_v1.specs.Piece.{piece_sums}
use Rattle.tor_sums.specs.declared.unit_sums.UnitSums.{UnitSums}
use Rattle.tor_sums.specs.steps.Each.{SumUpEach}
use Rattle.tor_sums.specs.steps.Hashes.{Node, level_of, nodes_of_unit}
use Rattle.tor_sums.specs.steps.Run.{HashesUnits, SumsUpUnit, bare_node, node_in, parts_of}
use Rattle.tor_sums.proofs.PartReads.{have_both, reads_as, reads_both, reads_none}
use Rattle.tor_sums.proofs.Runs.{joined_if, none_if}

module _ {F : Type 0} (is_steady : SourceFacts F → Type 0) (plan : PlanFacts) where
  abbrev nodes_in : List (List ℕ) → PlanUnit → List Node
  nodes_in contents = nodes_of_unit plan.piece_length (level_of plan.trees) contents

  abbrev pieces_in : List (List ℕ) → PlanUnit → List ℕ
  pieces_in contents unit = piece_sums plan.piece_length (unit_content contents unit)

  units_none : HashesUnits is_steady plan [] [] []
  units_none = record {
    reads = [];
    are = reads_none is_steady plan;
    sums = λ contents fit have. record {
      nodes = λ trees. refl;
      bare = λ none. refl;
      pieces = none_if (pieces_in contents) (has_v1 plan.kind);
    };
  }

  units_both : (first second : List PlanUnit) (nodes more : List Node) (pieces later : List ℕ)
      → HashesUnits is_steady plan first nodes pieces → HashesUnits is_steady plan second more later
      → HashesUnits is_steady plan (first ++ second) (nodes ++ more) (pieces ++ later)
  units_both first second nodes more pieces later one other = record {
    reads = one.reads ++ other.reads;
    are = reads_as is_steady plan (parts_of first ++ parts_of second) (parts_of (first ++ second))
        (one.reads ++ other.reads) (sym (flat_map-append (λ u. u.parts) first second))
        (reads_both is_steady plan (parts_of first) (parts_of second) one.reads other.reads one.are other.are);
    sums = λ contents fit have.
        let halves = have_both contents one.reads other.reads have in
        let before = one.sums contents fit halves.0 in
        let after = other.sums contents fit halves.1 in
        record {
          nodes = λ trees.
              ap₂ (λ xs ys. xs ++ ys) (before.nodes trees) (after.nodes trees)
              ∙ sym (flat_map-append (nodes_in contents) first second);
          bare = λ none.
              ap₂ (λ xs ys. xs ++ ys) (before.bare none) (after.bare none)
              ∙ sym (map-append (λ _. bare_node) first second);
          pieces = joined_if (pieces_in contents) (has_v1 plan.kind) first second _ _ before.pieces after.pieces;
        };
  }

  -- units that sum up each by itself
  units_joined : (units : List PlanUnit) (sums : List UnitSums) → SumUpEach (SumsUpUnit is_steady plan) units sums
      → HashesUnits is_steady plan units (map node_in sums)
      (flat_map (λ one. one.pieces.items) sums)
  unfolding SumUpEach
  units_joined [] [] each = units_none
  units_joined [] (one ∷ sums) each = absurd each
  units_joined (unit ∷ units) [] each = absurd each
  units_joined (unit ∷ units) (one ∷ sums) each =
      units_both (unit ∷ []) units (node_in one ∷ []) (map node_in sums) one.pieces.items
      (flat_map (λ one. one.pieces.items) sums) each.0 (units_joined units sums each.1)

  pub units_summed : (units all : List PlanUnit) (sums given : List UnitSums) → units ≡ all → given ≡ sums
      → SumUpEach (SumsUpUnit is_steady plan) units sums
      → HashesUnits is_steady plan all (map node_in given)
      (flat_map (λ one. one.pieces.items) given)
  units_summed units all sums given same_units same_sums each =
      units_joined all given
      (subst (λ (us : List PlanUnit). SumUpEach (SumsUpUnit is_steady plan) us given) same_units
      (subst (λ (xs : List UnitSums). SumUpEach (SumsUpUnit is_steady plan) units xs) (sym same_sums) each))
