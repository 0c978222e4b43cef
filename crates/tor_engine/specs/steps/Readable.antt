-- What is found of pieces as far as their bytes can be read. Only private clauses cite these.
use Rattle.std.specs.Prelude.{◌≡◌, ◌≢◌, ◌⊎◌, ◌<◌, IsSome, ℕ, List, [], ◌∷◌, is_some, length, map, slice_index_or}
use Rattle.std.specs.Prelude.{Option, None, Some}
use Rattle.std.specs.Prelude.{if◌then◌else◌}
use Rattle.std.specs.List.{AllByRecursion, flat_map}
use Rattle.tor_plan.specs.Pieces.{pieces_of_unit}
use Rattle.tor_plan.specs.PlanFacts.{PlanFacts}
use Rattle.tor_plan.specs.declared.units.PlanUnit.{PlanUnit}
use Rattle.tor_source.specs.Answers.{Answers}
use Rattle.tor_source.specs.Source.{SourceFacts}
use Rattle.tor_sums.specs.Contents.{contents_in}
use Rattle.tor_sums.specs.declared.errors.EngineError.{EngineError}
use Rattle.tor_sums.specs.declared.errors.EngineError.TheVariants.{Changed}
use Rattle.tor_sums.specs.steps.Each.{SumUpEach}
use Rattle.tor_sums.specs.steps.Given.{IsGivenRead, lengths_of_sizes}
use Rattle.tor_engine.specs.Readable.{HasHashWithin, error_of_fault, hash_if_readable, piece_faults}
use Rattle.tor_engine.specs.There.{HaveHashesOf}
use Rattle.tor_engine.specs.declared.pieces.piece_hash.PieceHash.{PieceHash}
use Rattle.tor_engine.specs.declared.pieces.read_fault.ReadFault.{ReadFault}
use Rattle.tor_engine.specs.declared.pieces.readable_unit.ReadableUnit.{ReadableUnit}
use Rattle.tor_engine.specs.steps.Pieces.{AreTold, hashes_in}
use Rattle.tor_engine.specs.steps.ReadableUnit.{faults_found, unit_found}

-- a source as it is seen where these lengths were told: the other files are missing
abbrev pub seen_by : {F : Type 0} → List (Option ℕ) → SourceFacts F → SourceFacts F
seen_by told facts = record {
  contents = λ file. if is_some (slice_index_or told file None) then facts.contents file else None;
  length_fault = λ _. None;
  byte_fault = facts.byte_fault;
}

-- what a read of one of its files gave; one of another file gives nothing
abbrev pub seen_answers : {F : Type 0} → List (Option ℕ) → Answers F → Answers F
seen_answers told answers = record {
  gave = answers.gave;
  told = answers.told;
  ended = λ file start. answers.ended file start ⊎ (slice_index_or told file None ≡ None);
}

-- steady, as it is seen
abbrev pub seen_steady : {F : Type 0} → List (Option ℕ) → (SourceFacts F → Type 0) → SourceFacts F → Type 0
seen_steady {F} told is_steady facts = (own : SourceFacts F) × is_steady own × (facts ≡ seen_by told own)

-- what may be answered of it
abbrev pub seen_may_be : {F : Type 0} → List (Option ℕ) → Answers F → EngineError F → Type 0
seen_may_be told answers = IsGivenRead (seen_answers told answers) (lengths_of_sizes told)

-- the fault, if there is one
abbrev pub listed : {A : Type 0} → Option A → List A
listed None = []
listed (Some x) = x ∷ []

-- these are the hashes of pieces of files with these lengths, as far as they can be read, and the faults: of a steady
-- source all of them. Of any source a piece that has a hash is there, and each that is there has one, where nothing
-- failed
pub record FindsReadable {F : Type 0} (is_steady : SourceFacts F → Type 0) (may_be : EngineError F → Type 0)
    (plan : PlanFacts) (told : List (Option ℕ)) (pieces : List PlanUnit) (hashes : List (Option PieceHash))
    (faults : List (ReadFault F)) : Type 0 where
  pub hashed : (facts : SourceFacts F) → is_steady facts
      → AreTold told (contents_in facts (length plan.lengths))
      → hashes ≡ map (hash_if_readable facts plan (contents_in facts (length plan.lengths))) pieces
  pub failed : (facts : SourceFacts F) → is_steady facts
      → AreTold told (contents_in facts (length plan.lengths))
      → faults ≡ flat_map (piece_faults facts (contents_in facts (length plan.lengths))) pieces
  pub within : SumUpEach (HasHashWithin told) pieces hashes
  pub clean : faults ≡ [] → HaveHashesOf told pieces hashes
  pub given : AllByRecursion (λ fault. may_be (error_of_fault fault)) faults

-- of the pieces of a unit
abbrev pub FindsUnit : {F : Type 0} → (SourceFacts F → Type 0) → (EngineError F → Type 0) → PlanFacts
    → List (Option ℕ) → PlanUnit → ReadableUnit F → Type 0
FindsUnit is_steady may_be plan told unit one =
    FindsReadable is_steady may_be plan told (pieces_of_unit plan.piece_length unit)
    (map hashes_in (unit_found one).pieces) (faults_found one)

-- the hashes of the pieces of a unit
abbrev pub unit_hashes_in : {F : Type 0} → ReadableUnit F → List (Option PieceHash)
unit_hashes_in one = map hashes_in (unit_found one).pieces

-- a file of which a length was told is changed: another was told
abbrev pub IsLeft : {F : Type 0} → Answers F → List (Option ℕ) → EngineError F → Type 0
IsLeft answers sizes error =
    (file : ℕ) × (other : Option ℕ) × (error ≡ Changed file) × (file < length sizes)
    × IsSome (slice_index_or sizes file None) × answers.told file other × (other ≢ slice_index_or sizes file None)
