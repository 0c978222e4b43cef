-- What a steady source has at an offset of a file, as bytes that were read. Only private clauses cite these.
use Rattle.std.specs.Prelude.{◌≡◌, ◌⊎◌, ℕ, ◌+◌, ◌<◌, List, None, Some, Result, MatchResult, take, drop}
use Rattle.tor_source.specs.Source.{SourceFacts, bytes_from}
use Rattle.tor_sums.specs.Fault.{byte_fault, wanted_byte_fault}
use Rattle.tor_sums.specs.declared.errors.EngineError.{EngineError}
use Rattle.tor_sums.specs.declared.errors.EngineError.TheVariants.{Changed}

-- none of so many bytes fails
abbrev pub IsFaultFree : {F : Type 0} → SourceFacts F → ℕ → ℕ → ℕ → Type 0
IsFaultFree facts file start count = (k : ℕ) → k < count → facts.byte_fault file (start + k) ≡ None

-- so many bytes behind others are those of the file, and none of them fails
pub record AreBytesAt {F : Type 0} (facts : SourceFacts F) (file start before : ℕ) (bytes : List ℕ) (count : ℕ)
    : Type 0 where
  pub same : take count (drop before bytes) ≡ take count (bytes_from facts file start)
  pub fault_free : IsFaultFree facts file start count

-- the file ends there, though more of it was told: it was changed, or the byte has its fault
abbrev pub EndsThere : {F : Type 0} → SourceFacts F → ℕ → ℕ → Result ℕ (EngineError F) → Type 0
EndsThere facts file start result =
    MatchResult result (λ _. ⊥) (λ error. (error ≡ Changed file) ⊎ (byte_fault facts file start ≡ Some error))

-- each of so many bytes is there, and none of them fails
abbrev pub AreWantedFree : {F : Type 0} → SourceFacts F → ℕ → ℕ → ℕ → Type 0
AreWantedFree facts file start count = (k : ℕ) → k < count → wanted_byte_fault facts file (start + k) ≡ None
