-- A part of a plan's file, where the files have the plan's lengths.
use Rattle.std.proofs.Common.{◌≡◌, ◌≢◌, ◌<◌, ℕ, List, [], ◌∷◌, length, map, take, drop, get_or, unwrap_or}
use Rattle.std.proofs.Common.{zero-add, ap, subst, sym, ◌∙◌, arith}
use Rattle.std.specs.List.{AllByRecursion, Contains}
use Rattle.std.proofs.lemmas.List.{get_or-map, length-drop, length-map, length-take-le}
use Rattle.std.proofs.lemmas.List.Elements.{All-contains, All-from_recursion, All-get_or, recursion_from_All}
use Rattle.std.proofs.lemmas.List.FromFn.{get_or-map-range_with_len}
use Rattle.tor_plan.specs.PlanFacts.{PlanFacts}
use Rattle.tor_plan.specs.WithinEntries.{IsInFile}
use Rattle.tor_plan.specs.declared.units.Part.{Part}
use Rattle.tor_plan.specs.declared.units.PlanUnit.{PlanUnit}
use Rattle.tor_source.specs.Source.{SourceFacts, bytes_from}
use Rattle.tor_sums.specs.Contents.{contents_in}
use Rattle.tor_sums.specs.steps.Hashes.{bytes_of_part}
use Rattle.tor_sums.specs.steps.Run.{IsUnitOf, parts_of}
use Rattle.tor_sums.specs.steps.Reads.{HasLengths, HasPart, HasParts}
use Rattle.tor_sums.proofs.PartReads.{all_split}

-- the plan tells the length of a file's content
pub size_of : (lengths : List ℕ) (contents : List (List ℕ)) (file : ℕ) → map length contents ≡ lengths
    → file < length lengths
    → get_or lengths file 0 ≡ length (get_or contents file [])
size_of lengths contents file fit named =
    let there : file < length contents = omega (arith, named, ap length fit, length-map contents length) in
    ap (λ xs. get_or xs file 0) (sym fit) ∙ get_or-map length contents file [] 0 there

-- files of these lengths have all bytes of a part
pub part_long : (lengths : List ℕ) (contents : List (List ℕ)) → map length contents ≡ lengths → (part : Part)
    → IsInFile lengths part → length (bytes_of_part contents part) ≡ part.length
part_long lengths contents fit part is =
    let content = get_or contents part.file [] in
    let size = size_of lengths contents part.file fit is.named in
    length-take-le part.length (drop part.start content)
    (omega (arith, is.within, size, length-drop part.start content))

-- a part has bytes
pub some_bytes : (lengths : List ℕ) (part : Part) (bytes : List ℕ) → IsInFile lengths part
    → length bytes ≡ part.length → bytes ≢ []
some_bytes lengths part bytes is counted none = omega (arith, counted, is.some, ap length none)

module _ {F : Type 0} (facts : SourceFacts F) (plan : PlanFacts) where
  pub content_at : (part : Part) → IsInFile plan.lengths part
      → get_or (contents_in facts (length plan.lengths)) part.file [] ≡ unwrap_or (facts.contents part.file) []
  content_at part is =
      get_or-map-range_with_len (λ file. unwrap_or (facts.contents file) []) 0 (length plan.lengths) part.file
      part.file []
      is.named (zero-add part.file)

  -- the bytes of a part are those that the source has from its start on
  pub part_bytes : (part : Part) → IsInFile plan.lengths part
      → take part.length (bytes_from facts part.file part.start)
      ≡ bytes_of_part (contents_in facts (length plan.lengths)) part
  part_bytes part is = ap (λ bytes. take part.length (drop part.start bytes)) (sym (content_at part is))

  -- which are there where the files have the plan's lengths
  module _ (fit : HasLengths plan facts) where
    part_there : (part : Part) → IsInFile plan.lengths part → HasPart facts part
    part_there part is =
        let size = size_of plan.lengths (contents_in facts (length plan.lengths)) part.file fit is.named in
        let long : get_or plan.lengths part.file 0 ≡ length (unwrap_or (facts.contents part.file) []) =
        size ∙ ap length (content_at part is) in
        let rest = length-drop part.start (unwrap_or (facts.contents part.file) []) in
        omega (arith, is.within, long, rest)

    pub parts_there : (parts : List Part) → AllByRecursion (IsInFile plan.lengths) parts → HasParts facts parts
    parts_there [] are = tt
    parts_there (part ∷ parts) are = (part_there part are.0, parts_there parts are.1)

    -- so are those of a unit
    pub unit_there : (unit : PlanUnit) → IsUnitOf plan unit → HasParts facts unit.parts
    unit_there unit is = parts_there unit.parts (recursion_from_All (IsInFile plan.lengths) unit.parts is.parts)

-- what holds of all parts holds of each
pub one_of_parts : (P : Part → Type 0) (parts other : List Part) (i : ℕ) (d : Part) → i < length parts → parts ≡ other
    → AllByRecursion P other → P (get_or parts i d)
one_of_parts P parts other i d lt same all =
    All-get_or P parts i d lt (All-from_recursion P parts (subst (λ (ps : List Part). AllByRecursion P ps) (sym same) all))

-- and what holds of all parts of units, of all of each unit
each_of_units : (P : Part → Type 0) (units : List PlanUnit) → AllByRecursion P (parts_of units)
    → AllByRecursion (λ unit. AllByRecursion P unit.parts) units
each_of_units P [] all = tt
each_of_units P (unit ∷ units) all =
    let both = all_split P unit.parts (parts_of units) all in (both.0, each_of_units P units both.1)

pub one_of_units : (P : Part → Type 0) (units : List PlanUnit) (unit : PlanUnit) → Contains units unit
    → AllByRecursion P (parts_of units) → AllByRecursion P unit.parts
one_of_units P units unit is all =
    let Has = λ (unit : PlanUnit). AllByRecursion P unit.parts in
    All-contains Has units unit (All-from_recursion Has units (each_of_units P units all)) is
