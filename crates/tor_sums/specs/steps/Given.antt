-- What an answer may come from where only lengths are asked, or pieces are read.
-- Only clauses of the crates that hash cite these.
use Rattle.std.specs.Prelude.{◌≢◌, ◌<◌, ℕ, List, length, map, slice_index_or, unwrap_or, Option, None}
use Rattle.tor_source.specs.Answers.{Answers}
use Rattle.tor_sums.specs.Given.{HasCause, departing}
pub use Rattle.tor_sums.specs.Given.{IsGivenRead}
use Rattle.tor_sums.specs.declared.errors.EngineError.{EngineError}
use Rattle.tor_sums.specs.declared.errors.EngineError.TheVariants.{Read, Changed}

-- where lengths are asked of files that may be missing: the source gave the fault for the length of one of so many
abbrev pub IsGivenLength : {F : Type 0} → Answers F → ℕ → EngineError F → Type 0
IsGivenLength answers count (Read file None fault) = answers.gave file None fault × (file < count)
IsGivenLength answers count _ = ⊥

-- where they are asked again of files of which these sizes were told: that, or the source told another
abbrev pub IsGivenAgain : {F : Type 0} → Answers F → List (Option ℕ) → EngineError F → Type 0
IsGivenAgain answers sizes (Changed file) =
    ((other : Option ℕ) × answers.told file other × (other ≢ slice_index_or sizes file None)) × (file < length sizes)
IsGivenAgain answers sizes error = IsGivenLength answers (length sizes) error

-- the sizes as lengths, that of a missing file is 0
abbrev pub lengths_of_sizes : List (Option ℕ) → List ℕ
lengths_of_sizes sizes = map (λ size. unwrap_or size 0) sizes

-- where pieces are hashed of files of which these sizes were told
abbrev pub IsGivenKnown : {F : Type 0} → Answers F → List (Option ℕ) → EngineError F → Type 0
IsGivenKnown answers sizes error =
    HasCause (departing answers (length sizes) (λ file. slice_index_or sizes file None)) error
