-- Contents of the planned lengths that a steady source has at units, if no length of their files has a fault.
use Rattle.std.proofs.Common.{◌≡◌, ◌∙◌, ◌+◌, ◌<◌, ℕ, zero, suc, Bool, true, false, cond, List, [], ◌∷◌, Option, None, Some}
use Rattle.std.proofs.Common.{ap, arith, drop, eqb, eqb-true, get_or, length, map, option_map, refl, replicate, sym, take}
use Rattle.std.proofs.Common.{unwrap_or, zero-add}
use Rattle.std.proofs.lemmas.List.{length-replicate}
use Rattle.std.proofs.lemmas.List.Elements.{recursion_from_All}
use Rattle.std.proofs.lemmas.List.FromFn.{get_or-map-range_with_len}
use Rattle.std.specs.List.{All, AllByRecursion, flat_map, slice_index}
use Rattle.tor_engine.specs.Rows.{AreInFiles, AreSameAt}
use Rattle.tor_parts.specs.OwnFiles.{own_length_fault, planned_fault, unless_planned}
use Rattle.tor_parts.proofs.FirstFaults.{all_both, both_none, split_none}
use Rattle.tor_plan.specs.WithinEntries.{IsInFile}
use Rattle.tor_plan.specs.declared.units.Part.{Part}
use Rattle.tor_plan.specs.declared.units.PlanUnit.{PlanUnit}
use Rattle.tor_source.specs.Source.{SourceFacts, unless_fault}
use Rattle.tor_sums.specs.Contents.{contents_in}
use Rattle.tor_sums.specs.Fault.{first_of}
use Rattle.tor_sums.specs.UnitNodes.{bytes_of_part}
use Rattle.tor_sums.specs.declared.errors.EngineError.{EngineError}
use Rattle.tor_sums.specs.declared.errors.EngineError.TheVariants.{Changed}

-- these bytes if they are so many, else so many zeros
filled : ℕ → List ℕ → List ℕ
filled n content = cond (eqb (length content) n) content (replicate n 0)

length-filled : (n : ℕ) (content : List ℕ) → length (filled n content) ≡ n
unfolding filled
length-filled n content = by_test (eqb (length content) n) refl
  where
    by_test : (b : Bool) → eqb (length content) n ≡ b → length (cond b content (replicate n 0)) ≡ n
    by_test true is = eqb-true (length content) n is
    by_test false is = length-replicate n 0

module _ {F : Type 0} (facts : SourceFacts F) where
  bytes_in : ℕ → List ℕ
  bytes_in file = unwrap_or (facts.contents file) []

  contents_from : ℕ → List ℕ → List (List ℕ)
  contents_from file [] = []
  contents_from file (n ∷ ns) = filled n (bytes_in file) ∷ contents_from (suc file) ns

  lengths_from : (file : ℕ) (ns : List ℕ) → map length (contents_from file ns) ≡ ns
  unfolding contents_from
  lengths_from file [] = refl
  lengths_from file (n ∷ ns) = rw (length-filled n (bytes_in file), lengths_from (suc file) ns) refl

  content_at : (file : ℕ) (ns : List ℕ) (i : ℕ) (d : List ℕ) → i < length ns
      → get_or (contents_from file ns) i d ≡ filled (get_or ns i 0) (bytes_in (file + i))
  unfolding contents_from filled
  content_at file [] i d less = absurd (omega (arith, less))
  content_at file (n ∷ ns) zero d less = let here : file ≡ file + 0 = omega arith in ap (λ k. filled n (bytes_in k)) here
  content_at file (n ∷ ns) (suc i) d less =
      let here : suc file + i ≡ file + suc i = omega arith in
      content_at (suc file) ns i d (omega (arith, less)) ∙ ap (λ k. filled (get_or ns i 0) (bytes_in k)) here

  -- a file whose length has no fault has as many bytes as were planned
  kept : (file n : ℕ) (fault : Option F) (content : Option (List ℕ))
      → unless_planned file n (unless_fault fault (option_map length content)) ≡ None
      → filled n (unwrap_or content []) ≡ unwrap_or content []
  unfolding filled
  kept file n (Some fault) content none = cc
  kept file n None None none = cc
  kept file n None (Some bytes) none = by_test (eqb (length bytes) n) (Changed file) none
    where
      by_test : (b : Bool) (error : EngineError F) → cond b None (Some error) ≡ None
          → cond b bytes (replicate n 0) ≡ bytes
      by_test true error none = refl
      by_test false error none = cc

  module _ (lengths : List ℕ) where
    planned : List (List ℕ)
    planned = contents_from 0 lengths

    IsSame : Part → Type 0
    IsSame part = bytes_of_part planned part ≡ bytes_of_part (contents_in facts (length lengths)) part

    same_part : (part : Part) → part.file < length lengths → planned_fault facts lengths part.file ≡ None → IsSame part
    unfolding IsSame planned bytes_in
    same_part part named none =
        let there = get_or-map-range_with_len (λ file. unwrap_or (facts.contents file) []) 0 (length lengths) part.file
        part.file [] named (zero-add part.file) in
        ap (λ (bytes : List ℕ). take part.length (drop part.start bytes))
        (content_at 0 lengths part.file [] named
        ∙ ap (λ k. filled (slice_index lengths part.file) (bytes_in k)) (zero-add part.file)
        ∙ kept part.file (slice_index lengths part.file) (facts.length_fault part.file) (facts.contents part.file) none
        ∙ sym there)

    same_parts : (parts : List Part) → AllByRecursion (IsInFile lengths) parts
        → first_of (planned_fault facts lengths) (map (λ part. part.file) parts) ≡ None → AllByRecursion IsSame parts
    unfolding first_of
    same_parts [] named none = tt
    same_parts (part ∷ parts) named none =
        let both = both_none (planned_fault facts lengths part.file)
        (first_of (planned_fault facts lengths) (map (λ part. part.file) parts)) none in
        (same_part part named.0.named both.0, same_parts parts named.1 both.1)

    same_units : (units : List PlanUnit) → AllByRecursion (λ unit. All (IsInFile lengths) unit.parts) units
        → first_of (planned_fault facts lengths) (flat_map (λ unit. map (λ part. part.file) unit.parts) units) ≡ None
        → AllByRecursion IsSame (flat_map (λ unit. unit.parts) units)
    same_units [] named none = tt
    same_units (unit ∷ units) named none =
        let both = split_none (planned_fault facts lengths) (map (λ part. part.file) unit.parts)
        (flat_map (λ unit. map (λ part. part.file) unit.parts) units) none in
        all_both IsSame unit.parts (flat_map (λ unit. unit.parts) units)
        (same_parts unit.parts (recursion_from_All (IsInFile lengths) unit.parts named.0) both.0)
        (same_units units named.1 both.1)

    pub planned_contents : (units : List PlanUnit) → AreInFiles lengths units
        → own_length_fault facts lengths units ≡ None
        → (contents : List (List ℕ)) × (map length contents ≡ lengths)
        × AreSameAt contents (contents_in facts (length lengths)) units
    unfolding IsSame planned
    planned_contents units named none = (
      planned,
      lengths_from 0 lengths,
      same_units units (recursion_from_All (λ (unit : PlanUnit). All (IsInFile lengths) unit.parts) units named) none,
    )
