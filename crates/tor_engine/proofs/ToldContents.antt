-- The lengths that were told of contents, and what is there by them.
use Rattle.std.proofs.Common.{◌≡◌, ℕ, zero, suc, ◌+◌, ◌&&◌, List, [], ◌∷◌, length, get_or, Option, None, refl, ap, ap₂}
use Rattle.std.proofs.Common.{sym, ◌∙◌, unwrap_or}
use Rattle.std.specs.Prelude.{nat_le}
use Rattle.std.specs.List.{list_all, slice_get}
use Rattle.std.specs.Option.{option_flatten}
use Rattle.std.proofs.Math.ListN.{get_or-map}
use Rattle.tor_plan.specs.Present.{is_part_there, is_there}
use Rattle.tor_plan.specs.declared.units.Part.{Part}
use Rattle.tor_plan.specs.declared.units.PlanUnit.{PlanUnit}
use Rattle.tor_engine.specs.There.{is_part_within, is_within, length_told}
use Rattle.tor_engine.specs.steps.Pieces.{AreTold}

-- past the end there is none
pub flat_at : (told : List (Option ℕ)) (file : ℕ) → option_flatten (slice_get told file) ≡ get_or told file None
flat_at [] zero = refl
flat_at [] (suc file) = refl
flat_at (size ∷ told) zero = refl
flat_at (size ∷ told) (suc file) = flat_at told file

-- by the lengths of contents just what they have
module _ (told : List (Option ℕ)) (contents : List (List ℕ)) (are : AreTold told contents) where
  told_at : (file : ℕ) → length_told told file ≡ length (get_or contents file [])
  told_at file =
      sym (get_or-map (λ size. unwrap_or size 0) told file None)
      ∙ ap (λ sizes. get_or sizes file 0) are
      ∙ get_or-map length contents file []

  parts_within : (parts : List Part)
      → list_all (is_part_within told) parts ≡ list_all (is_part_there contents) parts
  parts_within [] = refl
  parts_within (part ∷ parts) =
      ap₂ (λ a b. a && b) (ap (nat_le (part.start + part.length)) (told_at part.file)) (parts_within parts)

  pub within_is_there : (unit : PlanUnit) → is_within told unit ≡ is_there contents unit
  within_is_there unit = parts_within unit.parts
