-- Files in another order: file k is the one at index k of `indices`.
use Rattle.std.specs.Prelude.{◌<◌, ℕ, List, length, map, None, slice_index, slice_index_or}
use Rattle.tor_sums.specs.declared.errors.EngineError.{EngineError}
use Rattle.tor_sums.specs.declared.errors.EngineError.TheVariants.{Read, Changed, Missing, Resources, StreamTooLong}
use Rattle.tor_source.specs.Answers.{Answers}
use Rattle.tor_source.specs.Source.{SourceFacts}

-- the facts of the files at these indices; past the last there is no file
abbrev pub facts_at : {F : Type 0} → List ℕ → SourceFacts F → SourceFacts F
facts_at indices facts = record {
  contents = λ file. slice_index_or (map facts.contents indices) file None;
  length_fault = λ file. slice_index_or (map facts.length_fault indices) file None;
  byte_fault = λ file offset. slice_index_or (map (λ k. facts.byte_fault k offset) indices) file None;
}

-- what a source answered of these files; of any other it gave no fault
abbrev pub answers_at : {F : Type 0} → List ℕ → Answers F → Answers F
answers_at indices answers = record {
  gave = λ file offset fault. (file < length indices) × answers.gave (slice_index indices file) offset fault;
  told = λ file size. file < length indices → answers.told (slice_index indices file) size;
  ended = λ file start. file < length indices → answers.ended (slice_index indices file) start;
}

-- the number with which a file was handed in; past the last it keeps its own
abbrev pub handed_in : List ℕ → ℕ → ℕ
handed_in indices file = slice_index_or indices file file

-- the same fault under that number
abbrev pub renumbered : {F : Type 0} → List ℕ → EngineError F → EngineError F
renumbered indices (Read file start fault) = Read (handed_in indices file) start fault
renumbered indices (Changed file) = Changed (handed_in indices file)
renumbered indices (Missing file) = Missing (handed_in indices file)
renumbered indices Resources = Resources
renumbered indices (StreamTooLong file) = StreamTooLong (handed_in indices file)
