-- The first fault of a steady source where pieces are hashed that may not be there.
use Rattle.std.specs.Prelude.{ℕ, List, map, length, Option, None}
use Rattle.std.specs.Prelude.{option_map, if◌then◌else◌}
use Rattle.std.specs.List.{range_with_len}
use Rattle.std.specs.Option.{option_or}
use Rattle.tor_plan.specs.PlanFacts.{PlanFacts}
use Rattle.tor_plan.specs.Present.{is_there}
use Rattle.tor_plan.specs.declared.units.PlanUnit.{PlanUnit}
use Rattle.tor_source.specs.Source.{SourceFacts}
use Rattle.tor_sums.specs.Contents.{contents_in}
use Rattle.tor_sums.specs.Fault.{first_of, unit_fault}
use Rattle.tor_engine.specs.PieceHashes.{pieces_of_plan, pieces_of_units}
use Rattle.tor_sums.specs.declared.errors.EngineError.{EngineError}
use Rattle.tor_sums.specs.declared.errors.EngineError.TheVariants.{Read}

-- the length of each of so many files, none of one that is missing
abbrev pub lengths_told : {F : Type 0} → SourceFacts F → ℕ → List (Option ℕ)
lengths_told facts count = map (λ file. option_map length (facts.contents file)) (range_with_len 0 count)

-- where the length of a file is asked that may be missing
abbrev pub asked_fault : {F : Type 0} → SourceFacts F → ℕ → Option (EngineError F)
asked_fault facts file = option_map (λ fault. Read file None fault) (facts.length_fault file)

-- the first of so many
abbrev pub first_asked_fault : {F : Type 0} → SourceFacts F → ℕ → Option (EngineError F)
first_asked_fault facts count = first_of (asked_fault facts) (range_with_len 0 count)

-- where a piece is read, if every byte of it is there; no byte of another is read
abbrev pub piece_fault : {F : Type 0} → SourceFacts F → List (List ℕ) → PlanUnit → Option (EngineError F)
piece_fault facts contents piece = if is_there contents piece then unit_fault facts piece else None

-- of pieces, one after another
abbrev pub pieces_fault : {F : Type 0} → SourceFacts F → List (List ℕ) → List PlanUnit → Option (EngineError F)
pieces_fault facts contents pieces = first_of (piece_fault facts contents) pieces

-- the first fault of the lengths, then of the pieces that are there (profile)
abbrev pub first_piece_fault : {F : Type 0} → SourceFacts F → PlanFacts → Option (EngineError F)
first_piece_fault facts plan =
    option_or (first_asked_fault facts (length plan.lengths))
    (pieces_fault facts (contents_in facts (length plan.lengths)) (pieces_of_plan plan))

-- the first fault of the lengths of all files, then of some pieces that are there (profile)
abbrev pub some_pieces_fault : {F : Type 0} → SourceFacts F → PlanFacts → List PlanUnit → Option (EngineError F)
some_pieces_fault facts plan pieces =
    option_or (first_asked_fault facts (length plan.lengths))
    (pieces_fault facts (contents_in facts (length plan.lengths)) pieces)

-- the first fault of the lengths of all files, then of those pieces of some units that are there (profile)
abbrev pub units_piece_fault : {F : Type 0} → SourceFacts F → PlanFacts → List PlanUnit → Option (EngineError F)
units_piece_fault facts plan units = some_pieces_fault facts plan (pieces_of_units plan.piece_length units)
