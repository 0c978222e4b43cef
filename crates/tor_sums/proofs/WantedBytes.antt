-- The bytes that a part wants, of which its file may not have all.
use Rattle.std.proofs.Common.{◌≡◌, ◌⊎◌, ◌<◌, ◌≤◌, ℕ, zero, suc, ◌+◌, ◌-◌, cond, false, length, eqb, None, Some}
use Rattle.std.proofs.Common.{List, [], ◌∷◌, inl, inr, refl, ap, ap₂, sym, ◌∙◌, arith, unwrap_or}
use Rattle.std.proofs.Math.Dec.{eqb-suc-zero}
use Rattle.std.proofs.lemmas.Bool.{ne_eqb}
use Rattle.std.proofs.lemmas.List.{length-drop}
use Rattle.std.specs.List.{AllByRecursion, range_with_len}
use Rattle.std.specs.Option.{option_or}
use Rattle.tor_plan.specs.declared.units.Part.{Part}
use Rattle.tor_plan.specs.declared.units.PlanUnit.{PlanUnit}
use Rattle.tor_source.specs.Source.{SourceFacts, bytes_from}
use Rattle.tor_sums.specs.Fault.{PartFailsWithin, byte_fault, first_of, part_fault, unit_fault, units_fault}
use Rattle.tor_sums.specs.Fault.{wanted_byte_fault, wanted_part_fault, wanted_unit_fault, wanted_units_fault}
use Rattle.tor_sums.specs.UnitSums.{unit_at}
use Rattle.tor_sums.specs.declared.errors.EngineError.{EngineError}
use Rattle.tor_sums.specs.declared.errors.EngineError.TheVariants.{Changed}
use Rattle.tor_sums.specs.steps.ReadBytes.{AreWantedFree, IsFaultFree}
use Rattle.tor_sums.specs.steps.Reads.{HasPart, HasParts}
use Rattle.tor_sums.specs.steps.Run.{parts_of}
use Rattle.tor_sums.proofs.FirstOf.{first_found, first_none, first_same}
use Rattle.tor_sums.proofs.PartBytes.{some_left}
use Rattle.tor_sums.proofs.PartReads.{all_split}

module _ {F : Type 0} (facts : SourceFacts F) (file start : ℕ) where
  there_free : (offset : ℕ) → 0 < length (bytes_from facts file offset) → facts.byte_fault file offset ≡ None
      → wanted_byte_fault facts file offset ≡ None
  there_free offset some none =
      let is : eqb (length (bytes_from facts file offset)) 0 ≡ false =
      ne_eqb (length (bytes_from facts file offset)) 0 (λ same. omega (arith, some, same)) in
      rw (is, none) refl

  -- what was read is there
  pub read_free : (count : ℕ) → count ≤ length (bytes_from facts file start) → IsFaultFree facts file start count
      → AreWantedFree facts file start count
  read_free count there free k less =
      there_free (start + k) (some_left facts file start k count less there) (free k less)

  -- a read that failed, or gave none
  pub read_failed : (error : EngineError F)
      → (length (bytes_from facts file start) ≡ 0 → facts.byte_fault file start ≡ None)
      → (0 < length (bytes_from facts file start) → byte_fault facts file start ≡ Some error)
      → (length (bytes_from facts file start) ≡ 0
      → (error ≡ Changed file) ⊎ (byte_fault facts file start ≡ Some error))
      → wanted_byte_fault facts file start ≡ Some error
  read_failed error within failed ended = by_length (length (bytes_from facts file start)) refl
    where
      by_length : (n : ℕ) → length (bytes_from facts file start) ≡ n
          → cond (eqb n 0) (Some (Changed file)) (byte_fault facts file start) ≡ Some error
      by_length zero is =
          elim (ended is) [
            | inl changed ↦ ap (λ e. Some e) (sym changed)
            | inr fault ↦ let none = within is in let no = rw none at fault in cc
          ]
      by_length (suc n) is = rw (eqb-suc-zero n) (failed (omega (arith, is)))

  -- the first of them that fails or is not there
  pub first_wanted : (done size : ℕ) (error : EngineError F) → done < size
      → first_of (wanted_byte_fault facts file) (range_with_len start done) ≡ None
      → wanted_byte_fault facts file (start + done) ≡ Some error
      → first_of (wanted_byte_fault facts file) (range_with_len start size) ≡ Some error
  first_wanted done size error less none is =
      first_found (wanted_byte_fault facts file) start done size (start + done) error less refl none is

  -- none of those that were read
  pub wanted_more : (done count : ℕ) → AreWantedFree facts file (start + done) count
      → first_of (wanted_byte_fault facts file) (range_with_len start done) ≡ None
      → first_of (wanted_byte_fault facts file) (range_with_len start (done + count)) ≡ None
  wanted_more done count free none =
      first_none (wanted_byte_fault facts file) start done (done + count) (omega arith) none
      (λ j low high.
      let at : start + done + (j - (start + done)) ≡ j = omega arith in
      ap (wanted_byte_fault facts file) (sym at) ∙ free (j - (start + done)) (omega arith))

-- ---- parts that a source has

module _ {F : Type 0} (facts : SourceFacts F) where
  some_there : (part : Part) → HasPart facts part → (offset : ℕ) → part.start ≤ offset
      → offset < part.start + part.length → 0 < length (bytes_from facts part.file offset)
  some_there part have offset from before =
      let content = unwrap_or (facts.contents part.file) [] in
      omega (arith, have, from, before, length-drop part.start content, length-drop offset content)

  same_byte : (file offset : ℕ) → 0 < length (bytes_from facts file offset)
      → wanted_byte_fault facts file offset ≡ byte_fault facts file offset
  same_byte file offset some =
      rw (ne_eqb (length (bytes_from facts file offset)) 0 (λ none. omega (arith, some, none))) refl

  same_part : (part : Part) → HasPart facts part → wanted_part_fault facts part ≡ part_fault facts part
  same_part part have =
      first_same (wanted_byte_fault facts part.file) (byte_fault facts part.file) part.start part.length
      (λ offset from before. same_byte part.file offset (some_there part have offset from before))

  pub parts_within : (parts : List Part) → HasParts facts parts → AllByRecursion (PartFailsWithin facts) parts
  parts_within [] have = tt
  parts_within (part ∷ parts) have = (
    λ offset from before none. absurd (omega (arith, some_there part have.0 offset from before, none)),
    parts_within parts have.1,
  )

  same_parts : (parts : List Part) → HasParts facts parts
      → first_of (wanted_part_fault facts) parts ≡ first_of (part_fault facts) parts
  unfolding first_of
  same_parts [] have = refl
  same_parts (part ∷ parts) have = ap₂ option_or (same_part part have.0) (same_parts parts have.1)

  pub same_unit : (unit : PlanUnit) → HasParts facts unit.parts → wanted_unit_fault facts unit ≡ unit_fault facts unit
  same_unit unit have = same_parts unit.parts have

  pub same_units : (units : List PlanUnit) → HasParts facts (parts_of units)
      → wanted_units_fault facts units ≡ units_fault facts units
  unfolding first_of
  same_units [] have = refl
  same_units (unit ∷ units) have =
      let both = all_split (HasPart facts) unit.parts (parts_of units) have in
      ap₂ option_or (same_unit unit both.0) (same_units units both.1)

  -- also of a number past the last
  pub same_unit_at : (units : List PlanUnit) → HasParts facts (parts_of units) → (number : ℕ)
      → wanted_unit_fault facts (unit_at units number) ≡ unit_fault facts (unit_at units number)
  same_unit_at [] have number = same_parts [] tt
  same_unit_at (unit ∷ units) have zero =
      same_unit unit (all_split (HasPart facts) unit.parts (parts_of units) have).0
  same_unit_at (unit ∷ units) have (suc number) =
      same_unit_at units (all_split (HasPart facts) unit.parts (parts_of units) have).1 number
