-- What an answer may come from, of any source, whether it is steady or not.
use Rattle.std.specs.Prelude.{◌≢◌, ◌<◌, ◌⊎◌, ℕ, List, length, slice_index_or, unwrap_or, Option, None, Some}
use Rattle.tor_source.specs.Answers.{Answers}
use Rattle.tor_sums.specs.declared.errors.EngineError.{EngineError}
use Rattle.tor_sums.specs.declared.errors.EngineError.TheVariants.{Read, Changed, Missing, Resources, StreamTooLong}

-- the source told these sizes of the first files. It told none of one that is missing (profile)
abbrev pub HasTold : {F : Type 0} → Answers F → List (Option ℕ) → Type 0
HasTold answers sizes = (file : ℕ) → file < length sizes → answers.told file (slice_index_or sizes file None)

-- it told these lengths of them, and none is missing (profile)
abbrev pub HasToldLengths : {F : Type 0} → Answers F → List ℕ → Type 0
HasToldLengths answers lengths =
    (file : ℕ) → file < length lengths → answers.told file (Some (slice_index_or lengths file 0))

-- the source told another size of a file, or a read before its end gave no byte. So it does not keep to this size
-- (profile)
abbrev pub Departs : {F : Type 0} → Answers F → ℕ → Option ℕ → Type 0
Departs answers file size =
    ((other : Option ℕ) × answers.told file other × (other ≢ size))
    ⊎ ((start : ℕ) × answers.ended file start × (start < unwrap_or size 0))

-- the causes that an error may have: faults of so many files, changes of these, or that they are missing (profile)
pub record Causes (F : Type 0) : Type 1 where
  pub count : ℕ
  pub fault : ℕ → Option ℕ → F → Type 0
  pub changed : ℕ → Type 0
  pub missing : ℕ → Type 0

-- an error of the hashing has one of these causes, or memory or a thread was refused. The file that is named is one of
-- so many, and no stream is read (profile)
abbrev pub HasCause : {F : Type 0} → Causes F → EngineError F → Type 0
HasCause causes (Read file start fault) = causes.fault file start fault × (file < causes.count)
HasCause causes (Changed file) = causes.changed file × (file < causes.count)
HasCause causes (Missing file) = causes.missing file × (file < causes.count)
HasCause causes Resources = Unit {0}
HasCause causes (StreamTooLong file) = ⊥

-- the causes if so many files of these sizes are read: any fault that the source gave, and of a changed file that it
-- departs from its size
abbrev pub departing : {F : Type 0} → Answers F → ℕ → (ℕ → Option ℕ) → Causes F
departing answers count size = record {
  count = count;
  fault = answers.gave;
  changed = λ file. Departs answers file (size file);
  missing = λ _. ⊥;
}

-- the fault is one that the source gave for a length
abbrev pub GaveLength : {F : Type 0} → Answers F → ℕ → Option ℕ → F → Type 0
GaveLength answers file None fault = answers.gave file None fault
GaveLength answers file (Some start) fault = ⊥

-- the fault is one that it gave for a byte of a file of these lengths
abbrev pub GaveByte : {F : Type 0} → Answers F → List ℕ → ℕ → Option ℕ → F → Type 0
GaveByte answers lengths file None fault = ⊥
GaveByte answers lengths file (Some start) fault =
    answers.gave file (Some start) fault × (start < slice_index_or lengths file 0)

-- if lengths are asked: what is answered the source gave or told. It may be any source: a fault is one that it gave for
-- the length of one of so many files, and it told that the file is missing that is answered so (profile)
abbrev pub IsGivenAsked : {F : Type 0} → Answers F → ℕ → EngineError F → Type 0
IsGivenAsked answers count error = HasCause (record {
  count = count;
  fault = GaveLength answers;
  changed = λ _. ⊥;
  missing = λ file. answers.told file None;
}) error

-- the same if files are read. A fault is one that the source gave, for this file and offset; it does not keep to the
-- length of a file that is answered as changed, and told that one is missing that is answered so (profile)
abbrev pub IsGiven : {F : Type 0} → Answers F → List ℕ → EngineError F → Type 0
IsGiven answers lengths error = HasCause (record (departing answers (length lengths)
    (λ file. Some (slice_index_or lengths file 0))) { missing = λ file. answers.told file None }) error

-- the same, and it is not that a file is missing (profile)
abbrev pub IsGivenNotMissing : {F : Type 0} → Answers F → List ℕ → EngineError F → Type 0
IsGivenNotMissing answers lengths error =
    HasCause (departing answers (length lengths) (λ file. Some (slice_index_or lengths file 0))) error

-- the same if pieces of files are hashed, which may be missing. A fault is one that the source gave, for this file and
-- offset; of a file that is answered as changed it told a size, and does not keep to it (profile)
abbrev pub IsGivenPieces : {F : Type 0} → Answers F → ℕ → EngineError F → Type 0
IsGivenPieces answers count error = HasCause (record {
  count = count;
  fault = answers.gave;
  changed = λ file. (size : Option ℕ) × answers.told file size × Departs answers file size;
  missing = λ _. ⊥;
}) error

-- the same if bytes alone are read. A fault is one that the source gave, at a byte of the file; of a file that is
-- answered as changed a read of one of its bytes gave none (profile)
abbrev pub IsGivenRead : {F : Type 0} → Answers F → List ℕ → EngineError F → Type 0
IsGivenRead answers lengths error = HasCause (record {
  count = length lengths;
  fault = GaveByte answers lengths;
  changed = λ file. (start : ℕ) × answers.ended file start × (start < slice_index_or lengths file 0);
  missing = λ _. ⊥;
}) error
