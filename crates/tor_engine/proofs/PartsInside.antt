-- Parts that are in contents: how many bytes they have there, and that the source has them.
use Rattle.std.proofs.Common.{◌≡◌, ◌<◌, ◌≤◌, ℕ, zero, suc, ◌+◌, Bool, true, false, ◌&&◌, true≢false, List, [], ◌∷◌}
use Rattle.std.proofs.Common.{length, get_or, Option, None, unwrap_or, refl, ap, ap₂, sym, arith}
use Rattle.std.specs.List.{All, AllByRecursion, list_all}
use Rattle.std.proofs.Math.ListN.{get_or-map}
use Rattle.std.proofs.lemmas.Bool.{le-leb, leb-true}
use Rattle.std.proofs.lemmas.List.{length-drop}
use Rattle.std.proofs.lemmas.List.Elements.{All-from_recursion, recursion_from_All}
use Rattle.tor_plan.specs.PlanFacts.{PlanFacts}
use Rattle.tor_plan.specs.Present.{is_part_there, is_there}
use Rattle.tor_plan.specs.WithinEntries.{IsInFile}
use Rattle.tor_plan.specs.declared.units.Part.{Part}
use Rattle.tor_plan.specs.declared.units.PlanUnit.{PlanUnit}
use Rattle.tor_source.specs.Source.{SourceFacts}
use Rattle.tor_sums.specs.Contents.{contents_in}
use Rattle.tor_engine.specs.There.{is_part_within, is_within, length_told}
use Rattle.tor_sums.specs.steps.Given.{lengths_of_sizes}
use Rattle.tor_sums.specs.steps.Reads.{HasParts}
use Rattle.tor_sums.proofs.Parts.{content_at}

abbrev pub Inside : List (List ℕ) → Part → Type 0
Inside contents part = part.start + part.length ≤ length (get_or contents part.file [])

first_in : (a b : Bool) → (a && b) ≡ true → (a ≡ true) × (b ≡ true)
first_in true b both = (refl, both)
first_in false b both = absurd (true≢false (sym both))

module _ (contents : List (List ℕ)) where
  pub parts_in : (parts : List Part) → list_all (is_part_there contents) parts ≡ true
      → AllByRecursion (Inside contents) parts
  parts_in [] all = tt
  parts_in (part ∷ parts) all =
      let both = first_in (is_part_there contents part) (list_all (is_part_there contents) parts) all in
      (leb-true (part.start + part.length) (length (get_or contents part.file [])) both.0, parts_in parts both.1)

-- the source has them, too
source_has : {F : Type 0} (facts : SourceFacts F) (plan : PlanFacts) (parts : List Part)
    → AllByRecursion (IsInFile plan.lengths) parts
    → AllByRecursion (Inside (contents_in facts (length plan.lengths))) parts
    → HasParts facts parts
source_has facts plan [] are there = tt
source_has facts plan (part ∷ parts) are there =
    let here = ap length (content_at facts plan part are.0) in
    let rest = length-drop part.start (unwrap_or (facts.contents part.file) []) in
    (omega (arith, here, rest, there.0), source_has facts plan parts are.1 there.1)

pub source_has_unit : {F : Type 0} (facts : SourceFacts F) (plan : PlanFacts) (unit : PlanUnit)
    → All (IsInFile plan.lengths) unit.parts → is_there (contents_in facts (length plan.lengths)) unit ≡ true
    → HasParts facts unit.parts
source_has_unit facts plan unit are there =
    source_has facts plan unit.parts (recursion_from_All (IsInFile plan.lengths) unit.parts are)
    (parts_in (contents_in facts (length plan.lengths)) unit.parts there)

-- ---- the files have the sizes that were told of them

named_by : (xs : List ℕ) (k : ℕ) → 0 < get_or xs k 0 → k < length xs
named_by [] zero some = some
named_by [] (suc k) some = absurd (omega (arith, some))
named_by (x ∷ xs) zero some = omega arith
named_by (x ∷ xs) (suc k) some = omega (arith, named_by xs k some)

in_told : (sizes : List (Option ℕ)) (lengths : List ℕ) (parts : List Part)
    → AllByRecursion (IsInFile lengths) parts → list_all (is_part_within sizes) parts ≡ true
    → AllByRecursion (IsInFile (lengths_of_sizes sizes)) parts
in_told sizes lengths [] are there = tt
in_told sizes lengths (part ∷ parts) are there =
    let both = first_in (is_part_within sizes part) (list_all (is_part_within sizes) parts) there in
    let within = leb-true (part.start + part.length) (length_told sizes part.file) both.0 in
    let size : get_or (lengths_of_sizes sizes) part.file 0 ≡ length_told sizes part.file =
    get_or-map (λ size. unwrap_or size 0) sizes part.file None in (
      record {
        named = named_by (lengths_of_sizes sizes) part.file (omega (arith, are.0.some, within, size));
        some = are.0.some;
        within = omega (arith, within, size);
      },
      in_told sizes lengths parts are.1 both.1,
    )

-- and the other way round: they are there by these sizes
parts_told : (sizes : List (Option ℕ)) (parts : List Part) → AllByRecursion (IsInFile (lengths_of_sizes sizes)) parts
    → list_all (is_part_within sizes) parts ≡ true
parts_told sizes [] are = refl
parts_told sizes (part ∷ parts) are =
    let size = get_or-map (λ size. unwrap_or size 0) sizes part.file None in
    ap₂ (λ a b. a && b) (le-leb (part.start + part.length) (length_told sizes part.file)
    (omega (arith, are.0.within, size))) (parts_told sizes parts are.1)

pub told_has_unit : (sizes : List (Option ℕ)) (unit : PlanUnit) → All (IsInFile (lengths_of_sizes sizes)) unit.parts
    → is_within sizes unit ≡ true
told_has_unit sizes unit are =
    parts_told sizes unit.parts (recursion_from_All (IsInFile (lengths_of_sizes sizes)) unit.parts are)

pub unit_in_told : (sizes : List (Option ℕ)) (lengths : List ℕ) (unit : PlanUnit) → All (IsInFile lengths) unit.parts
    → is_within sizes unit ≡ true → All (IsInFile (lengths_of_sizes sizes)) unit.parts
unit_in_told sizes lengths unit are there =
    All-from_recursion (IsInFile (lengths_of_sizes sizes)) unit.parts
    (in_told sizes lengths unit.parts (recursion_from_All (IsInFile lengths) unit.parts are) there)
