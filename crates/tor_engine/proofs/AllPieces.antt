-- The hashes and the first fault of all pieces of a plan, unit by unit.
use Rattle.std.proofs.Common.{◌≡◌, ℕ, List, [], ◌∷◌, ◌++◌, length, map, Option, None, Some, is_some, unwrap_or}
use Rattle.std.proofs.Common.{option_map, refl, ap, ap₂, sym, ◌∙◌}
use Rattle.std.specs.List.{flat_map, range_with_len}
use Rattle.std.proofs.lemmas.List.{length-map, map-append}
use Rattle.tor_plan.specs.Pieces.{pieces_of_unit}
use Rattle.tor_plan.specs.PlanFacts.{PlanFacts}
use Rattle.tor_plan.specs.declared.units.PlanUnit.{PlanUnit}
use Rattle.tor_source.specs.Source.{SourceFacts}
use Rattle.tor_sums.specs.Contents.{contents_in}
use Rattle.tor_engine.specs.PieceFault.{first_asked_fault, first_piece_fault, lengths_told, piece_fault, pieces_fault}
use Rattle.tor_engine.specs.PieceFault.{units_piece_fault}
use Rattle.tor_engine.specs.PieceHashes.{hash_if_there, hashes_of_units, pieces_of_plan, pieces_of_units, piece_hashes}
use Rattle.tor_engine.specs.There.{HaveHashesOf, is_within}
use Rattle.tor_engine.specs.declared.pieces.piece_hash.PieceHash.{PieceHash}
use Rattle.tor_engine.specs.declared.pieces.piece_work.UnitPieces.{UnitPieces}
use Rattle.tor_sums.specs.steps.Each.{SumUpEach}
use Rattle.tor_engine.specs.steps.Pieces.{AreTold, HashesPieces, first_unit_fault, hashes_in, unit_hashes}
use Rattle.tor_engine.specs.steps.Pieces.{unit_pieces_fault}
use Rattle.tor_sums.proofs.FirstOf.{or_none}
use Rattle.tor_engine.proofs.PositionFaults.{first_flat}

joined_maps : {X Y Z : Type 0} (f : Y → Z) (g : X → List Y) (xs : List X)
    → flat_map (λ x. map f (g x)) xs ≡ map f (flat_map g xs)
joined_maps f g [] = refl
joined_maps f g (x ∷ xs) =
    ap (λ ys. map f (g x) ++ ys) (joined_maps f g xs) ∙ sym (map-append f (g x) (flat_map g xs))

pub all_hashes : (plan : PlanFacts) (contents : List (List ℕ))
    → flat_map (unit_hashes plan contents) plan.units ≡ piece_hashes plan contents
all_hashes plan contents = joined_maps (hash_if_there plan contents) (pieces_of_unit plan.piece_length) plan.units

-- those of units, and their first fault
pub hashes_flat : (plan : PlanFacts) (contents : List (List ℕ)) (units : List PlanUnit)
    → flat_map (unit_hashes plan contents) units ≡ hashes_of_units plan contents units
hashes_flat plan contents units = joined_maps (hash_if_there plan contents) (pieces_of_unit plan.piece_length) units

pub faults_flat : {F : Type 0} (facts : SourceFacts F) (plan : PlanFacts) (contents : List (List ℕ))
    (units : List PlanUnit)
    → first_unit_fault facts plan contents units ≡ pieces_fault facts contents (pieces_of_units plan.piece_length units)
faults_flat facts plan contents units =
    sym (first_flat (piece_fault facts contents) (pieces_of_unit plan.piece_length)
    (unit_pieces_fault facts plan contents) units (λ unit. refl))

pub all_faults : {F : Type 0} (facts : SourceFacts F) (plan : PlanFacts) (contents : List (List ℕ))
    → first_unit_fault facts plan contents plan.units ≡ pieces_fault facts contents (pieces_of_plan plan)
all_faults facts plan contents =
    sym (first_flat (piece_fault facts contents) (pieces_of_unit plan.piece_length)
    (unit_pieces_fault facts plan contents) plan.units (λ unit. refl))

-- units that are hashed each by itself
module _ {F : Type 0} (is_steady : SourceFacts F → Type 0) (plan : PlanFacts) (told : List (Option ℕ)) where
  abbrev Each : List PlanUnit → List UnitPieces → Type 0
  Each units hashes = SumUpEach (λ unit one. HashesPieces is_steady plan told unit (map hashes_in one.pieces))
      units hashes

  pub hashes_joined : (facts : SourceFacts F) → is_steady facts
      → AreTold told (contents_in facts (length plan.lengths))
      → (units : List PlanUnit) (hashes : List UnitPieces) → Each units hashes
      → flat_map (λ one. map hashes_in one.pieces) hashes
      ≡ flat_map (unit_hashes plan (contents_in facts (length plan.lengths))) units
  unfolding SumUpEach
  hashes_joined facts steady are [] [] each = refl
  hashes_joined facts steady are [] (one ∷ hashes) each = absurd each
  hashes_joined facts steady are (unit ∷ units) [] each = absurd each
  hashes_joined facts steady are (unit ∷ units) (one ∷ hashes) each =
      ap₂ (λ xs ys. xs ++ ys) (each.0.steady facts steady are) (hashes_joined facts steady are units hashes each.1)

  pub hashes_there : (units : List PlanUnit) (hashes : List UnitPieces) → Each units hashes
      → HaveHashesOf told (flat_map (pieces_of_unit plan.piece_length) units)
      (flat_map (λ one. map hashes_in one.pieces) hashes)
  unfolding SumUpEach
  hashes_there [] [] each = refl
  hashes_there [] (one ∷ hashes) each = absurd each
  hashes_there (unit ∷ units) [] each = absurd each
  hashes_there (unit ∷ units) (one ∷ hashes) each =
      map-append is_some (map hashes_in one.pieces) (flat_map (λ one. map hashes_in one.pieces) hashes)
      ∙ ap₂ (λ xs ys. xs ++ ys) each.0.there (hashes_there units hashes each.1)
      ∙ sym (map-append (is_within told) (pieces_of_unit plan.piece_length unit)
      (flat_map (pieces_of_unit plan.piece_length) units))

-- there are as many hashes as pieces
pub hashes_counted : (told : List (Option ℕ)) (pieces : List PlanUnit) (hashes : List (Option PieceHash))
    → HaveHashesOf told pieces hashes → length hashes ≡ length pieces
hashes_counted told pieces hashes there =
    sym (length-map hashes is_some) ∙ ap length there ∙ length-map pieces (is_within told)

-- the lengths that were told are those of the contents
module _ {F : Type 0} (facts : SourceFacts F) where
  same_size : (content : Option (List ℕ)) → unwrap_or (option_map length content) 0 ≡ length (unwrap_or content [])
  same_size None = refl
  same_size (Some content) = refl

  same_sizes : (files : List ℕ)
      → map (λ size. unwrap_or size 0) (map (λ file. option_map length (facts.contents file)) files)
      ≡ map length (map (λ file. unwrap_or (facts.contents file) []) files)
  same_sizes [] = refl
  same_sizes (file ∷ files) = ap₂ (λ n ns. n ∷ ns) (same_size (facts.contents file)) (same_sizes files)

  pub are_told : (told : List (Option ℕ)) (count : ℕ) → told ≡ lengths_told facts count
      → AreTold told (contents_in facts count)
  are_told told count is =
      ap (map (λ size. unwrap_or size 0)) is ∙ same_sizes (range_with_len 0 count)

  -- where no length fails, the pieces come
  pub fault_after : (plan : PlanFacts) → first_asked_fault facts (length plan.lengths) ≡ None
      → first_unit_fault facts plan (contents_in facts (length plan.lengths)) plan.units ≡ first_piece_fault facts plan
  fault_after plan none =
      let contents = contents_in facts (length plan.lengths) in
      all_faults facts plan contents
      ∙ sym (or_none (first_asked_fault facts (length plan.lengths))
      (pieces_fault facts contents (pieces_of_plan plan)) none)

  -- of some units
  pub fault_of_units : (plan : PlanFacts) (units : List PlanUnit) → first_asked_fault facts (length plan.lengths) ≡ None
      → first_unit_fault facts plan (contents_in facts (length plan.lengths)) units ≡ units_piece_fault facts plan units
  fault_of_units plan units none =
      let contents = contents_in facts (length plan.lengths) in
      faults_flat facts plan contents units
      ∙ sym (or_none (first_asked_fault facts (length plan.lengths))
      (pieces_fault facts contents (pieces_of_units plan.piece_length units)) none)
