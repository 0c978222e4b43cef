-- The torrent of readers that are read once: what it is of, and why it is not made.
use Rattle.std.specs.Prelude.{◌≡◌, ◌*◌, ℕ, Bool, true, ◌&&◌, not, nat_le, List as ListOf, [], ◌∷◌, length, map}
use Rattle.std.specs.Prelude.{Option, None, Some, option_map, if◌then◌else◌}
use Rattle.std.specs.Option.{option_or}
use Rattle.std.specs.Ordering.{is_lt}
use Rattle.tor_streams.specs.Streams.{GiveContents, IsFaultOfReaders}
use Rattle.tor_sums.specs.declared.errors.EngineError.TheVariants as engine
use Rattle.tor_streams.specs.declared.streams.TheConstants.{MAX_UNIT_LENGTH}
use Rattle.tor_meta.specs.Contents.{files_with}
use Rattle.tor_meta.specs.Make.{numbers_refusal}
use Rattle.tor_meta.specs.MakeError.{of_contents_error}
use Rattle.tor_meta.specs.Order.{settings_of_order}
use Rattle.tor_meta.specs.Refusal.{ordered_refusal, shape_refusal}
use Rattle.tor_meta.specs.declared.make_error.MakeError.{MakeError}
use Rattle.tor_meta.specs.declared.make_error.MakeError.TheVariants.{Span, NotSorted, List, Hashing}
use Rattle.tor_meta.specs.declared.order.Order.{Order}
use Rattle.tor_spec.specs.Metainfo.{metainfo}
use Rattle.tor_spec.specs.Settings.{Settings}
use Rattle.tor_tree.specs.FileList.{lengths_fault}
use Rattle.tor_tree.specs.Path.{path_cmp}
use Rattle.tor_tree.specs.declared.attr.Attr.{Attr}
use Rattle.tor_tree.specs.declared.lists.ListError.TheVariants.{TooLarge}

-- each path is below the next (profile)
abbrev pub are_rising : ListOf (ListOf (ListOf ℕ)) → Bool
are_rising [] = true
are_rising (path ∷ []) = true
are_rising (path ∷ next ∷ paths) = is_lt (path_cmp path next) && are_rising (next ∷ paths)

-- M1, M2, M3, this also for units of more than 2^30 bytes (profile)
abbrev pub stream_numbers_refusal : {F : Type 0} → Order → Option (MakeError F)
stream_numbers_refusal order = option_or (numbers_refusal order) (
    if nat_le (order.span * order.piece_length) MAX_UNIT_LENGTH then None else Some Span)

-- the first reason why no torrent is made of readers: M6 comes after M5. It is known before a byte is read: the
-- numbers, M4, M5, then M6, then the other refusals of paths, to Y1 (profile)
abbrev pub stream_refusal : {F : Type 0} → Order → ListOf (ListOf (ListOf ℕ)) → Option (MakeError F)
stream_refusal order paths =
    option_or (stream_numbers_refusal order) (
    option_or (option_map of_contents_error (shape_refusal (settings_of_order order) paths)) (
    if not (are_rising paths) then Some NotSorted else (
    option_map of_contents_error (ordered_refusal (settings_of_order order) paths))))

-- the torrent of what readers give, each to its end. That is not too large together (profile)
abbrev pub IsMadeOfReaders : Settings → ListOf (ListOf (ListOf ℕ) × Attr) → ListOf (Option (ListOf ℕ)) → ListOf ℕ
    → Type 0
IsMadeOfReaders settings files known bytes =
    (contents : ListOf (ListOf ℕ)) × GiveContents known contents × (lengths_fault (map length contents) ≡ None)
    × (bytes ≡ metainfo settings (files_with files contents))

-- what is answered of readers they gave. It is a fault of one, after as many bytes as it gave, or more bytes than a
-- file may have, or contents that are too large together; nothing is asked of them but bytes (profile)
abbrev pub IsGivenByReaders : {F : Type 0} → ListOf (Option (ListOf ℕ)) → MakeError F → Type 0
IsGivenByReaders known (Hashing (engine.Read file start fault)) =
    IsFaultOfReaders known (engine.Read file start fault)
IsGivenByReaders known (Hashing (engine.Changed file)) = ⊥
IsGivenByReaders known (Hashing (engine.Missing file)) = ⊥
IsGivenByReaders {F} known (Hashing (engine.StreamTooLong file)) =
    IsFaultOfReaders {F = F} known (engine.StreamTooLong file)
IsGivenByReaders known (List TooLarge) =
    (contents : ListOf (ListOf ℕ)) × GiveContents known contents
    × (lengths_fault (map length contents) ≡ Some TooLarge)
IsGivenByReaders known other = Unit {0}
