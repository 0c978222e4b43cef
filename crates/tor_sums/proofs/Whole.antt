-- All units of a plan, of files that have its lengths.
use Rattle.std.proofs.Common.{◌≡◌, ◌≤◌, ◌*◌, ◌^◌, ℕ, [], length, map, Option, None, Some}
use Rattle.std.proofs.Common.{option_map, unwrap_or, mul-le-mul_right, refl, ap, sym, subst, ◌∙◌}
use Rattle.std.proofs.Common.{arith, mul-pos, true, true≢false, ◌≢◌, ◌<◌}
use Rattle.std.proofs.lemmas.List.{length-map}
use Rattle.std.proofs.lemmas.List.FromFn.{length-map-range_with_len}
use Rattle.std.specs.List.{All, range_with_len}
use Rattle.tor_plan.specs.PlanFacts.{PlanFacts, IsPlan, IsPlanPieceLength}
use Rattle.tor_tree.specs.Kinds.{has_v2}
use Rattle.tor_tree.specs.declared.kinds.Kind.{Kind}
use Rattle.tor_tree.specs.declared.kinds.Kind.TheVariants.{V1, V2, Hybrid}
use Rattle.tor_plan.proofs.ProvedLaws.{entry_units_are_within_files, separate_entry_units_are_whole}
use Rattle.tor_source.specs.Source.{SourceFacts}
use Rattle.tor_sums.specs.Contents.{contents_in}
use Rattle.tor_sums.specs.Fault.{change_from, first_length_fault, first_of, length_fault}
use Rattle.tor_sums.specs.declared.errors.EngineError.TheVariants.{Changed}
use Rattle.tor_sums.specs.steps.Reads.{HasLengths}
use Rattle.tor_sums.specs.steps.Run.{IsUnitOf}
use Rattle.tor_sums.proofs.Change.{none_changed}
use Rattle.tor_sums.proofs.FileHashes.{some_piece}
use Rattle.tor_sums.proofs.FirstOf.{neither}

pub piece_is_small : (kind : Kind) (p : ℕ) → IsPlanPieceLength kind p → p ≤ 2 ^ 30
piece_is_small V1 p pieces = pieces.1
piece_is_small V2 p pieces = pieces.2
piece_is_small Hybrid p pieces = pieces.2

small_unit : (plan : PlanFacts) (is : IsPlan plan) → is.span * plan.piece_length ≤ 2 ^ 40
small_unit plan is =
    omega (
      arith,
      mul-le-mul_right {m = is.span} {n = 1024} plan.piece_length is.is_span.2,
      piece_is_small plan.kind plan.piece_length is.pieces,
    )

pub has_no_trees : (kind : Kind) → has_v2 kind ≡ true → kind ≢ V1
has_no_trees kind v2 is = true≢false (sym v2 ∙ ap has_v2 is)

pub units_of_plan : (plan : PlanFacts) → IsPlan plan → All (IsUnitOf plan) plan.units
units_of_plan plan is =
    subst (λ (p : PlanFacts). All (IsUnitOf p) p.units) (sym is.made)
    (λ k d there.
    let unit = entry_units_are_within_files plan.kind plan.piece_length is.span is.entries (omega (arith, is.is_span.1))
    (some_piece plan.kind plan.piece_length is.pieces) is.is_list.laid_out k d there in
    let pos : 0 < is.span * plan.piece_length =
    mul-pos (omega (arith, is.is_span.1)) (some_piece plan.kind plan.piece_length is.pieces) in
    record {
      within = omega (arith, unit.within, small_unit plan is);
      parts = unit.parts;
      alone = λ v2.
          let one = separate_entry_units_are_whole plan.kind plan.piece_length is.span is.entries
          (has_no_trees plan.kind v2) pos k d there in
          (one.part, one.alone);
    })

no_change : {A B : Type 0} (f : A → B) (change : Option A) → option_map f change ≡ None → change ≡ None
no_change f None none = refl
no_change f (Some file) none = cc

-- the files have the lengths of the plan where none of them is told otherwise
pub lengths_hold : {F : Type 0} (facts : SourceFacts F) (plan : PlanFacts)
    → first_length_fault facts plan.lengths ≡ None
    → HasLengths plan facts
lengths_hold facts plan none =
    let told = map length (contents_in facts (length plan.lengths)) in
    let same = (neither (first_of (length_fault facts) (range_with_len 0 (length plan.lengths)))
    (option_map (λ file. Changed file) (change_from 0 told plan.lengths)) none).1 in
    let long = length-map (contents_in facts (length plan.lengths)) length
    ∙ length-map-range_with_len (λ file. unwrap_or (facts.contents file) []) 0 (length plan.lengths) in
    none_changed 0 told plan.lengths long (no_change (λ file. Changed file) (change_from 0 told plan.lengths) same)
