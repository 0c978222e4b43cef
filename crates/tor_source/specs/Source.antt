-- What a source of files answers, where it answers the same each time.
use Rattle.std.specs.Prelude.{◌≡◌, ◌≤◌, ◌<◌, ◌+◌, ◌⊎◌, ℕ, List, [], length, take, drop, Option, Some, None, Result}
use Rattle.std.specs.Prelude.{Ok, Err, MatchResult, option_map, unwrap_or}

-- what a steady source has: contents, and faults of lengths and of bytes. A missing file has no content, and a byte is
-- the one at an offset of a file (profile)
pub record SourceFacts (F : Type 0) : Type 0 where
  pub contents : ℕ → Option (List ℕ)
  pub length_fault : ℕ → Option F
  pub byte_fault : ℕ → ℕ → Option F

-- the fault, or where there is none this value
abbrev pub unless_fault : {F A : Type 0} → Option F → A → Result A F
unless_fault (Some fault) _ = Err fault
unless_fault None value = Ok value

-- the answer of `length`. It is the fault of the file's length, or else how many bytes it has, none if it is missing
-- (profile)
abbrev pub told_length : {F : Type 0} → SourceFacts F → ℕ → Result (Option ℕ) F
told_length facts file = unless_fault (facts.length_fault file) (option_map length (facts.contents file))

-- the bytes of a file from an offset on; a missing file has none
abbrev pub bytes_from : {F : Type 0} → SourceFacts F → ℕ → ℕ → List ℕ
bytes_from facts file start = drop start (unwrap_or (facts.contents file) [])

-- so many bytes of a file were read from an offset on into a buffer, which was `old` and is now `new`: no byte that
-- fails is among them, and there is at least one, unless the buffer is empty or the file has no more
pub record AreRead {F : Type 0} (facts : SourceFacts F) (file start : ℕ) (old new : List ℕ) (count : ℕ) : Type 0 where
  pub within : count ≤ length old
  pub there : count ≤ length (bytes_from facts file start)
  pub bytes : take count new ≡ take count (bytes_from facts file start)
  pub fault_free : (k : ℕ) → k < count → facts.byte_fault file (start + k) ≡ None
  pub progress : count ≡ 0 → (length old ≡ 0) ⊎ (length (bytes_from facts file start) ≡ 0)

-- the answer of `read_at`. It is how many bytes were read, or the fault of the first of them (profile)
abbrev pub IsReadAt : {F : Type 0} → SourceFacts F → ℕ → ℕ → List ℕ → List ℕ → Result ℕ F → Type 0
IsReadAt facts file start old new result =
    MatchResult result (AreRead facts file start old new) (λ fault. facts.byte_fault file start ≡ Some fault)

-- the fault at an offset of a file: of a byte, or where the offset is none, of the length
abbrev pub fault_at : {F : Type 0} → SourceFacts F → ℕ → Option ℕ → Option F
fault_at facts file None = facts.length_fault file
fault_at facts file (Some offset) = facts.byte_fault file offset
