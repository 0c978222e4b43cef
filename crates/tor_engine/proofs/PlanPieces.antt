-- The pieces of the units of a plan are not empty, and in a kind with trees one part of a file each.
use Rattle.std.proofs.Common.{◌≡◌, ◌<◌, ℕ, true, List, [], ◌∷◌}
use Rattle.std.proofs.Common.{get_or, ap, subst, sym, ◌∙◌, arith, zero-add}
use Rattle.std.specs.Int.{div_ceil}
use Rattle.std.specs.List.{All, AllByRecursion, flat_map}
use Rattle.std.proofs.lemmas.List.Elements.{All-from_recursion, recursion_from_All}
use Rattle.std.proofs.lemmas.List.FromFn.{get_or-map-range_with_len, length-map-range_with_len}
use Rattle.tor_merkle.proofs.ProvedLaws.{below_from_ceil}
use Rattle.tor_plan.specs.Entries.{entry_units}
use Rattle.tor_plan.specs.Pieces.{piece_of_unit, pieces_of_unit}
use Rattle.tor_plan.specs.PlanFacts.{IsPlan, PlanFacts}
use Rattle.tor_plan.specs.WithinEntries.{IsInFile, unit_length}
use Rattle.tor_plan.specs.declared.units.PlanUnit.{PlanUnit}
use Rattle.tor_plan.proofs.ProvedLaws.{pieces_are_so_long, pieces_are_within_files, separate_entry_units_are_whole}
use Rattle.tor_plan.proofs.ProvedLaws.{units_are_cut_into_pieces}
use Rattle.tor_tree.specs.Kinds.{has_v2}
use Rattle.tor_engine.specs.steps.Pieces.{IsPiece, IsUnitToHash}
use Rattle.tor_sums.specs.steps.Run.{IsOnePart, IsUnitOf}
use Rattle.tor_sums.proofs.FileHashes.{some_piece}
use Rattle.tor_sums.proofs.PartReads.{all_split}
use Rattle.tor_sums.proofs.Whole.{has_no_trees, piece_is_small, units_of_plan}

-- what holds of all lists that stand one after another holds of each
pub each_list : {X Y : Type 0} (P : Y → Type 0) (f : X → List Y) (xs : List X) → AllByRecursion P (flat_map f xs)
    → AllByRecursion (λ x. AllByRecursion P (f x)) xs
each_list P f [] all = tt
each_list P f (x ∷ xs) all =
    let both = all_split P (f x) (flat_map f xs) all in
    (both.0, each_list P f xs both.1)

module _ (plan : PlanFacts) (is : IsPlan plan) where
  abbrev p : ℕ
  p = plan.piece_length

  some : 0 < p
  some = some_piece plan.kind p is.pieces

  alone : has_v2 plan.kind ≡ true
      → AllByRecursion (λ unit. AllByRecursion IsOnePart (pieces_of_unit p unit)) plan.units
  alone v2 =
      let cut : flat_map (pieces_of_unit p) plan.units ≡ entry_units plan.kind p 1 is.entries =
      ap (λ (facts : PlanFacts). flat_map (pieces_of_unit p) facts.units) is.made
      ∙ units_are_cut_into_pieces plan.kind p is.span is.entries some (omega (arith, is.is_span.1))
      is.is_list.laid_out in
      each_list IsOnePart (pieces_of_unit p) plan.units
      (subst (λ (units : List PlanUnit). AllByRecursion IsOnePart units) (sym cut)
      (recursion_from_All IsOnePart (entry_units plan.kind p 1 is.entries)
      (λ k d lt.
      let one = separate_entry_units_are_whole plan.kind p 1 is.entries (has_no_trees plan.kind v2)
      (omega (arith, some)) k d lt in
      (one.part, one.alone))))

  each_piece : (unit : PlanUnit) → IsUnitOf plan unit
      → (has_v2 plan.kind ≡ true → AllByRecursion IsOnePart (pieces_of_unit p unit))
      → All (IsPiece plan) (pieces_of_unit p unit)
  unfolding pieces_of_unit
  each_piece unit is_unit own j d lt =
      let count = div_ceil (unit_length unit) p in
      let less : j < count =
      omega (arith, lt, length-map-range_with_len (piece_of_unit p unit) 0 count) in
      let here = get_or-map-range_with_len (piece_of_unit p unit) 0 count j j d less (zero-add j) in
      let within = pieces_are_within_files plan.lengths p j unit is_unit.parts in
      let long = pieces_are_so_long p j unit in
      let begins = below_from_ceil (unit_length unit) p j some less in
      record {
        unit = record {
          within = omega (arith, ap unit_length here, within.within, piece_is_small plan.kind p is.pieces);
          parts = subst (λ (piece : PlanUnit). All (IsInFile plan.lengths) piece.parts) (sym here) within.parts;
          alone = λ v2. All-from_recursion IsOnePart (pieces_of_unit p unit) (own v2) j d lt;
        };
        some = omega (arith, ap unit_length here, long, begins, some);
        within = omega (arith, ap unit_length here, within.within);
      }

  pub units_to_hash : All (IsUnitToHash plan) plan.units
  units_to_hash k d lt =
      let unit = units_of_plan plan is k d lt in
      record {
        within = unit;
        pieces = each_piece (get_or plan.units k d) unit
            (λ v2. All-from_recursion (λ unit. AllByRecursion IsOnePart (pieces_of_unit p unit)) plan.units (alone v2) k
            d lt);
      }
