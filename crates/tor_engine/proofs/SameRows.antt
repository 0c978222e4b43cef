-- Contents that have the same bytes at some units have the same hashes of their pieces.
use Rattle.std.proofs.Common.{◌≡◌, ℕ, cond, List, [], ◌∷◌, ◌++◌, length, map}
use Rattle.std.proofs.Common.{get_or, Option, refl, ap, ap₂, sym, ◌∙◌}
use Rattle.std.specs.List.{AllByRecursion, flat_map}
use Rattle.tor_plan.specs.Content.{part_content}
use Rattle.tor_plan.specs.PlanFacts.{IsPlan, PlanFacts}
use Rattle.tor_plan.specs.WithinEntries.{IsInFile}
use Rattle.tor_plan.specs.declared.units.Part.{Part}
use Rattle.tor_plan.specs.declared.units.PlanUnit.{PlanUnit}
use Rattle.tor_tree.specs.Kinds.{has_v1}
use Rattle.tor_v1.specs.Piece.{piece_sums, zeros}
use Rattle.tor_engine.specs.Rows.{AreSameAt, IsRowOf, row_in, sums_of_pieces, units_between}
use Rattle.tor_sums.specs.UnitNodes.{level_in, level_of, node_of_part, node_over, nodes_of_unit}
use Rattle.tor_sums.specs.steps.Hashes.{bytes_of_part}
use Rattle.tor_sums.specs.steps.Run.{parts_of}
use Rattle.tor_sums.proofs.PartReads.{all_split}
use Rattle.tor_engine.proofs.LotRows.{between_inside}
use Rattle.tor_sums.proofs.Parts.{size_of}

module _ (plan : PlanFacts) (contents other : List (List ℕ)) (fit : map length contents ≡ plan.lengths)
    (fits : map length other ≡ plan.lengths) where
  abbrev p : ℕ
  p = plan.piece_length

  abbrev level : Option ℕ
  level = level_of plan.trees

  abbrev Same : List Part → Type 0
  Same parts = AllByRecursion (λ part. bytes_of_part contents part ≡ bytes_of_part other part) parts

  same_node : (part : Part) → IsInFile plan.lengths part → bytes_of_part contents part ≡ bytes_of_part other part
      → node_of_part p level other part ≡ node_of_part p level contents part
  same_node part is same =
      let long : length (get_or other part.file []) ≡ length (get_or contents part.file []) =
      sym (size_of plan.lengths other part.file fits is.named) ∙ size_of plan.lengths contents part.file fit is.named in
      ap₂ (λ n bytes. node_over p (level_in level n part.length) bytes) long (sym same)

  same_nodes : (parts : List Part) → AllByRecursion (IsInFile plan.lengths) parts → Same parts
      → map (node_of_part p level other) parts ≡ map (node_of_part p level contents) parts
  same_nodes [] are same = refl
  same_nodes (part ∷ parts) are same =
      ap₂ (λ x xs. x ∷ xs) (same_node part are.0 same.0) (same_nodes parts are.1 same.1)

  same_bytes : (parts : List Part) → Same parts
      → flat_map (part_content other) parts ≡ flat_map (part_content contents) parts
  same_bytes [] same = refl
  same_bytes (part ∷ parts) same =
      ap₂ (λ xs ys. xs ++ ys) (ap (λ bytes. bytes ++ zeros part.zeros) (sym same.0)) (same_bytes parts same.1)

  both_same : (units : List PlanUnit) → AllByRecursion (IsInFile plan.lengths) (parts_of units)
      → Same (parts_of units)
      → (flat_map (nodes_of_unit p level other) units ≡ flat_map (nodes_of_unit p level contents) units)
      × (sums_of_pieces plan other units ≡ sums_of_pieces plan contents units)
  both_same [] are same = (refl, refl)
  both_same (unit ∷ units) are same =
      let inside = all_split (IsInFile plan.lengths) unit.parts (parts_of units) are in
      let alike = all_split (λ part. bytes_of_part contents part ≡ bytes_of_part other part) unit.parts (parts_of units)
      same in
      let later = both_same units inside.1 alike.1 in (
        ap₂ (λ xs ys. xs ++ ys) (same_nodes unit.parts inside.0 alike.0) later.0,
        ap₂ (λ xs ys. piece_sums p (zeros unit.zeros ++ xs) ++ ys) (same_bytes unit.parts alike.0) later.1,
      )

  pub same_row : (units : List PlanUnit) (hashes : List (List ℕ)) (pieces : List ℕ)
      → AllByRecursion (IsInFile plan.lengths) (parts_of units) → AreSameAt contents other units
      → IsRowOf plan other units hashes pieces → IsRowOf plan contents units hashes pieces
  same_row units hashes pieces are same row =
      let both = both_same units are same in
      record {
        nodes = λ trees. row.nodes trees ∙ ap (flat_map row_in) both.0;
        bare = row.bare;
        sums = row.sums ∙ ap (λ s. cond (has_v1 plan.kind) s []) both.1;
      }

pub row_by_bytes : (plan : PlanFacts) → IsPlan plan → (contents other : List (List ℕ))
    → map length contents ≡ plan.lengths
    → map length other ≡ plan.lengths → (from to : ℕ) (hashes : List (List ℕ)) (pieces : List ℕ)
    → AreSameAt contents other (units_between from to plan.units)
    → IsRowOf plan other (units_between from to plan.units) hashes pieces
    → IsRowOf plan contents (units_between from to plan.units) hashes pieces
row_by_bytes plan is contents other fit fits from to hashes pieces same row =
    same_row plan contents other fit fits (units_between from to plan.units) hashes pieces
    (between_inside plan is from to) same row
