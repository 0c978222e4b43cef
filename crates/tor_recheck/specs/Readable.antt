-- What a recheck tells that keeps going: what cannot be read is not there.
use Rattle.std.specs.Prelude.{ℕ, ◌==◌, Bool, false, ◌&&◌, List, ◌++◌, find, is_none, length, map, slice_index_or}
use Rattle.std.specs.Prelude.{Option}
use Rattle.std.specs.List.{flat_map, range_with_len}
use Rattle.tor_engine.specs.PieceFault.{asked_fault, piece_fault}
use Rattle.tor_engine.specs.Readable.{error_of_fault, piece_faults, read_faults, seen_contents}
use Rattle.tor_engine.specs.declared.pieces.read_fault.ReadFault.{ReadFault}
use Rattle.tor_plan.specs.Entries.{empty_unit}
use Rattle.tor_view.specs.Files.{held_pieces}
use Rattle.tor_view.specs.Pieces.{pieces_of}
use Rattle.tor_recheck.specs.Recheck.{IsGiven, of_engine_error}
use Rattle.tor_recheck.specs.declared.errors.RecheckError.{RecheckError}
use Rattle.tor_recheck.specs.declared.errors.RecheckError.TheVariants.{Changed, Read, Resources, Workers}
use Rattle.tor_source.specs.Answers.{Answers}
use Rattle.tor_source.specs.Source.{SourceFacts}
use Rattle.tor_spec.specs.Verified.{verified_pieces}
use Rattle.tor_spec.specs.valid.View.{View}

-- what a steady source has of the torrent's files. A file whose length fails is not there (profile)
abbrev pub contents_seen : {F : Type 0} → SourceFacts F → View → List (List ℕ)
contents_seen facts view = seen_contents facts (length view.files)

-- no byte of piece i fails, or it is not wholly there
abbrev pub is_readable : {F : Type 0} → SourceFacts F → View → ℕ → Bool
is_readable facts view i =
    is_none (piece_fault facts (contents_seen facts view) (slice_index_or (pieces_of view) i empty_unit))

-- those of these pieces of which no byte fails
abbrev pub those_readable : {F : Type 0} → SourceFacts F → View → List Bool → List Bool
those_readable facts view bits =
    map (λ i. slice_index_or bits i false && is_readable facts view i) (range_with_len 0 view.piece_count)

-- the pieces all of whose bytes can be read and are right. A byte that fails is not there, nor is a file whose length
-- fails (BEP 3, "info dictionary"; BEP 52, "piece layers", "pieces root"; profile)
abbrev pub readable_pieces : {F : Type 0} → SourceFacts F → View → List Bool
readable_pieces facts view = those_readable facts view (verified_pieces view (contents_seen facts view))

-- the pieces that can be read and hold, by the side that tells whose bytes they have (profile)
abbrev pub readable_held : {F : Type 0} → SourceFacts F → View → List Bool
readable_held facts view = those_readable facts view (held_pieces view (contents_seen facts view))

-- what of a torrent's files cannot be read. Lengths come first, then of each part of each piece that is there the first
-- byte that fails (profile)
abbrev pub faults_seen : {F : Type 0} → SourceFacts F → View → List (ReadFault F)
faults_seen facts view =
    flat_map (λ file. read_faults (asked_fault facts file)) (range_with_len 0 (length view.files))
    ++ flat_map (piece_faults facts (contents_seen facts view)) (pieces_of view)

-- the first of them that is of this file, by which it is unreadable (profile)
abbrev pub first_of_file : {F : Type 0} → List (ReadFault F) → ℕ → Option (ReadFault F)
first_of_file faults file = find (λ fault. fault.file == file) faults

-- for each of so many files
abbrev pub first_of_files : {F : Type 0} → List (ReadFault F) → ℕ → List (Option (ReadFault F))
first_of_files faults count = map (first_of_file faults) (range_with_len 0 count)

-- the source gave it, for this file
abbrev pub IsGivenFault : {F : Type 0} → Answers F → ℕ → ReadFault F → Type 0
IsGivenFault answers count fault = IsGiven answers count (of_engine_error (error_of_fault fault))

-- an error that may end a recheck which keeps going. Workers were wrong, memory or a thread was refused, or a file was
-- changed; no fault of a read ends it (profile)
abbrev pub IsNoReadFault : {F : Type 0} → RecheckError F → Type 0
IsNoReadFault (Read file start fault) = ⊥
IsNoReadFault (Changed file) = Unit {0}
IsNoReadFault Resources = Unit {0}
IsNoReadFault Workers = Unit {0}
