-- The first position that fails, in the order of the units and in that of the files.
use Rattle.std.proofs.Common.{◌≡◌, ℕ, ◌+◌, ◌*◌, ◌<◌, List, [], ◌∷◌, map, Option, refl, ap, ap₂, sym, ◌∙◌}
use Rattle.std.specs.List.{enumerate_from, flat_map, range_with_len}
use Rattle.std.specs.Option.{option_or}
use Rattle.tor_sums.specs.Fault.{byte_fault, file_fault, first_byte_fault, first_of, part_fault, unit_fault}
use Rattle.tor_sums.specs.Fault.{units_fault}
use Rattle.tor_sums.specs.declared.errors.EngineError.{EngineError}
use Rattle.tor_plan.specs.Entries.{entry_units, lengths_of_entries}
use Rattle.tor_plan.specs.Positions.{positions, positions_of_files, positions_of_part, positions_of_unit}
use Rattle.tor_plan.specs.declared.units.PlanUnit.{PlanUnit}
use Rattle.tor_plan.proofs.ProvedLaws.{entry_units_name_each_byte}
use Rattle.tor_source.specs.Source.{SourceFacts}
use Rattle.tor_tree.specs.declared.kinds.Kind.{Kind}
use Rattle.tor_sums.proofs.FirstOf.{first_append}
use Rattle.tor_v1.specs.declared.entry.Entry.{Entry}

-- the first of lists that stand one after the other
pub first_flat : {A B C : Type 0} (found : B → Option C) (f : A → List B) (one : A → Option C) (xs : List A)
    → ((x : A) → first_of found (f x) ≡ one x) → first_of found (flat_map f xs) ≡ first_of one xs
unfolding first_of
first_flat found f one [] same = refl
first_flat found f one (x ∷ xs) same =
    first_append found (f x) (flat_map f xs) ∙ ap₂ (λ a b. option_or a b) (same x) (first_flat found f one xs same)

first_mapped : {A B C : Type 0} (found : B → Option C) (f : A → B) (xs : List A)
    → first_of found (map f xs) ≡ first_of (λ x. found (f x)) xs
unfolding first_of
first_mapped found f [] = refl
first_mapped found f (x ∷ xs) = ap (λ a. option_or (found (f x)) a) (first_mapped found f xs)

module _ {F : Type 0} (facts : SourceFacts F) where
  pub found : ℕ × ℕ → Option (EngineError F)
  found position = byte_fault facts position.0 position.1

  in_run : (file start count : ℕ) → first_of found (positions file start count)
      ≡ first_of (byte_fault facts file) (range_with_len start count)
  unfolding found
  in_run file start count = first_mapped found (λ offset. (file, offset)) (range_with_len start count)

  pub in_unit : (unit : PlanUnit) → first_of found (positions_of_unit unit) ≡ unit_fault facts unit
  in_unit unit =
      first_flat found positions_of_part (part_fault facts) unit.parts
      (λ part. in_run part.file part.start part.length)

  in_files : (file : ℕ) (lengths : List ℕ) → first_of found (positions_of_files file lengths)
      ≡ first_of (λ f. file_fault facts f.0 f.1) (enumerate_from file lengths)
  unfolding first_of positions_of_files
  in_files file [] = refl
  in_files file (count ∷ lengths) =
      first_append found (positions file 0 count) (positions_of_files (file + 1) lengths)
      ∙ ap₂ (λ a b. option_or a b) (in_run file 0 count) (in_files (file + 1) lengths)

  pub fault_of_entries : (kind : Kind) (p span : ℕ) (entries : List Entry) → 0 < span * p
      → units_fault facts (entry_units kind p span entries) ≡ first_byte_fault facts (lengths_of_entries entries)
  fault_of_entries kind p span entries pos =
      sym (first_flat found positions_of_unit (unit_fault facts) (entry_units kind p span entries) in_unit)
      ∙ ap (first_of found) (entry_units_name_each_byte kind p span entries pos)
      ∙ in_files 0 (lengths_of_entries entries)
