-- What pieces hash to, as far as their bytes can be read, and the faults of those that cannot.
use Rattle.std.specs.Prelude.{◌≡◌, ◌⊎◌, ℕ, true, List, [], ◌∷◌, ◌++◌, is_none, is_some, length, map, Option, None, Some}
use Rattle.std.specs.Prelude.{if◌then◌else◌}
use Rattle.std.specs.List.{flat_map, range_with_len}
use Rattle.tor_plan.specs.PlanFacts.{PlanFacts}
use Rattle.tor_plan.specs.Present.{is_there}
use Rattle.tor_plan.specs.declared.units.PlanUnit.{PlanUnit}
use Rattle.tor_source.specs.Answers.{Answers}
use Rattle.tor_source.specs.Source.{SourceFacts}
use Rattle.tor_sums.specs.Contents.{contents_in}
use Rattle.tor_sums.specs.Fault.{part_fault}
use Rattle.tor_sums.specs.declared.errors.EngineError.{EngineError}
use Rattle.tor_sums.specs.declared.errors.EngineError.TheVariants.{Changed, Missing, Read, Resources, StreamTooLong}
use Rattle.tor_engine.specs.PieceFault.{asked_fault, lengths_told, piece_fault}
use Rattle.tor_engine.specs.PieceHashes.{hash_if_there, pieces_of_plan}
use Rattle.tor_engine.specs.There.{is_within}
use Rattle.tor_engine.specs.declared.pieces.piece_hash.PieceHash.{PieceHash}
use Rattle.tor_engine.specs.declared.pieces.read_fault.ReadFault.{ReadFault}

-- a steady source as far as its lengths can be asked. A file whose length fails is missing (profile)
abbrev pub seen : {F : Type 0} → SourceFacts F → SourceFacts F
seen facts = record {
  contents = λ file. if is_some (facts.length_fault file) then None else facts.contents file;
  length_fault = λ _. None;
  byte_fault = facts.byte_fault;
}

-- the contents of its first so many files
abbrev pub seen_contents : {F : Type 0} → SourceFacts F → ℕ → List (List ℕ)
seen_contents facts count = contents_in (seen facts) count

-- the hashes of a piece of which every byte is there, and none fails
abbrev pub hash_if_readable : {F : Type 0} → SourceFacts F → PlanFacts → List (List ℕ) → PlanUnit → Option PieceHash
hash_if_readable facts plan contents piece =
    if is_none (piece_fault facts contents piece) then hash_if_there plan contents piece else None

-- each piece's SHA-1 and Merkle hash, none if a byte is not there or fails. A file whose length fails is not there (BEP
-- 3, "info dictionary"; BEP 52, "piece layers", "pieces root"; profile)
abbrev pub readable_hashes : {F : Type 0} → SourceFacts F → PlanFacts → List (Option PieceHash)
readable_hashes facts plan =
    map (hash_if_readable facts plan (seen_contents facts (length plan.lengths))) (pieces_of_plan plan)

-- a fault, as it is told
abbrev pub read_faults : {F : Type 0} → Option (EngineError F) → List (ReadFault F)
read_faults (Some (Read file start fault)) = record { file = file; start = start; fault = fault } ∷ []
read_faults _ = []

-- the first fault of each part of a piece that is there; no byte of another is read
abbrev pub piece_faults : {F : Type 0} → SourceFacts F → List (List ℕ) → PlanUnit → List (ReadFault F)
piece_faults facts contents piece =
    if is_there contents piece then flat_map (λ part. read_faults (part_fault facts part)) piece.parts else []

-- what cannot be read: lengths in the order of the files, then of each part of each piece the first byte that fails. Of
-- pieces only those count that are there (profile)
abbrev pub all_read_faults : {F : Type 0} → SourceFacts F → PlanFacts → List (ReadFault F)
all_read_faults facts plan =
    flat_map (λ file. read_faults (asked_fault facts file)) (range_with_len 0 (length plan.lengths))
    ++ flat_map (piece_faults facts (seen_contents facts (length plan.lengths))) (pieces_of_plan plan)

-- the lengths that can be asked, none of a file that is missing or whose length fails
abbrev pub seen_lengths : {F : Type 0} → SourceFacts F → ℕ → List (Option ℕ)
seen_lengths facts count = lengths_told (seen facts) count

-- ---- of any source

-- the source told this length of a file, or gave a fault for it
abbrev pub IsSeenLength : {F : Type 0} → Answers F → ℕ → Option ℕ → Type 0
IsSeenLength {F} answers file size =
    answers.told file size ⊎ ((size ≡ None) × (fault : F) × answers.gave file None fault)

-- a fault as the error that it is
abbrev pub error_of_fault : {F : Type 0} → ReadFault F → EngineError F
error_of_fault fault = Read fault.file fault.start fault.fault

-- an error that may end a work which keeps going. Memory or a thread was refused, or a file was changed; no fault of a
-- read ends it (profile)
abbrev pub IsNoReadFault : {F : Type 0} → EngineError F → Type 0
IsNoReadFault (Read file start fault) = ⊥
IsNoReadFault (Changed file) = Unit {0}
IsNoReadFault (Missing file) = ⊥
IsNoReadFault Resources = Unit {0}
IsNoReadFault (StreamTooLong file) = ⊥

-- a piece that has a hash is there
abbrev pub HasHashWithin : List (Option ℕ) → PlanUnit → Option PieceHash → Type 0
HasHashWithin told piece hash = is_some hash ≡ true → is_within told piece ≡ true
