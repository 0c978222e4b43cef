-- The torrent of the files of a source: what it is of, and why it is not made.
use Rattle.std.specs.Prelude.{◌≡◌, ℕ, ◌<◌, not, List as ListOf, [], length, map, slice_index_or, Option, None, Some}
use Rattle.std.specs.Prelude.{option_map, unwrap_or, if◌then◌else◌}
use Rattle.std.specs.List.{enumerate_from, range_with_len}
use Rattle.std.specs.Option.{option_or}
use Rattle.tor_sums.specs.Contents.{contents_in}
use Rattle.tor_sums.specs.Fault.{first_of, length_fault}
use Rattle.tor_sums.specs.Given.{Departs, HasCause, HasToldLengths}
use Rattle.tor_sums.specs.How.{is_how}
use Rattle.tor_merkle.specs.Layer.{is_piece_length}
use Rattle.tor_meta.specs.Contents.{files_with}
use Rattle.tor_sums.specs.declared.errors.EngineError.TheVariants as engine
use Rattle.tor_meta.specs.MakeError.{of_contents_error, of_engine_error}
use Rattle.tor_meta.specs.Order.{is_span, settings_of_order}
use Rattle.tor_meta.specs.Refusal.{paths_refusal}
use Rattle.tor_meta.specs.declared.make_error.MakeError.{MakeError}
use Rattle.tor_meta.specs.declared.make_error.MakeError.TheVariants.{PieceLength, Workers, Span, List, Hashing}
use Rattle.tor_meta.specs.declared.order.Order.{Order}
use Rattle.tor_source.specs.Answers.{Answers}
use Rattle.tor_source.specs.Source.{SourceFacts}
use Rattle.tor_spec.specs.Facts.{File}
use Rattle.tor_spec.specs.Metainfo.{metainfo}
use Rattle.tor_spec.specs.Settings.{Settings}
use Rattle.tor_tree.specs.FileList.{IsInPathOrder, lengths_fault, paths_of}
use Rattle.tor_tree.specs.Letters.{no_letters}
use Rattle.tor_tree.specs.declared.attr.Attr.{Attr}
use Rattle.tor_tree.specs.declared.lists.ListError.TheVariants.{TooLarge}
use Rattle.tor_tree.specs.PathList.{AreIndexedPaths, indices_of}

-- the bytes of a file; a missing one has none
abbrev pub content_at : {F : Type 0} → SourceFacts F → ℕ → ListOf ℕ
content_at facts file = unwrap_or (facts.contents file) []

-- the files that a source has under paths with letters. File i has the i-th path, and its letters (profile)
abbrev pub files_of_source : {F : Type 0} → SourceFacts F → ListOf (ListOf (ListOf ℕ) × Attr) → ListOf File
files_of_source facts files =
    map (λ file. record { path = file.1.0; content = content_at facts file.0; attr = file.1.1 }) (enumerate_from 0
    files)

-- the letters of the file of an index
abbrev pub letters_at : ListOf (ListOf (ListOf ℕ) × Attr) → ℕ → Attr
letters_at files index = (slice_index_or files index ([], no_letters)).1

-- paths with their indices, and the letters of the files there
abbrev pub lettered : ListOf (ListOf (ListOf ℕ) × Attr) → ListOf (ListOf (ListOf ℕ) × ℕ)
    → ListOf (ListOf (ListOf ℕ) × Attr)
lettered files entries = map (λ entry. (entry.0, letters_at files entry.1)) entries

-- paths with their indices, and the lengths of the files there
abbrev pub listed_files : {F : Type 0} → SourceFacts F → ListOf (ListOf (ListOf ℕ) × ℕ) → ListOf (ListOf (ListOf ℕ) × ℕ)
listed_files facts entries = map (λ entry. (entry.0, length (content_at facts entry.1))) entries

-- the first reason that needs no path: M1, M2, M3 (profile)
abbrev pub numbers_refusal : {F : Type 0} → Order → Option (MakeError F)
numbers_refusal order =
    if not (is_piece_length order.piece_length) then Some PieceLength else (
    if not (is_how order.how) then Some Workers else (
    if not (is_span order.span) then Some Span else None))

-- the first reason, before the source is asked, why no torrent is made. It is of the numbers, then of the paths, to Y1
-- (profile)
abbrev pub make_refusal : {F : Type 0} → Order → ListOf (ListOf (ListOf ℕ)) → Option (MakeError F)
make_refusal order paths =
    option_or (numbers_refusal order) (option_map of_contents_error (paths_refusal (settings_of_order order) paths))

-- where the lengths of so many files are asked, in the order of their numbers; and then that of all lengths together
abbrev pub asked_fault : {F : Type 0} → SourceFacts F → ℕ → Option (MakeError F)
asked_fault facts count =
    option_or (option_map of_engine_error (first_of (length_fault facts) (range_with_len 0 count)))
    (option_map List (lengths_fault (map length (contents_in facts count))))

-- if the bytes are read: file by file in the order of the list, each from its first byte to its last
abbrev pub byte_told : {F : Type 0} → SourceFacts F → ℕ → ℕ → Option (MakeError F)
byte_told facts file offset =
    option_map (λ fault. Hashing (engine.Read file (Some offset) fault)) (facts.byte_fault file offset)

-- the first byte that fails, file by file in the order of the list (profile)
abbrev pub bytes_fault : {F : Type 0} → SourceFacts F → ListOf (ListOf (ListOf ℕ) × ℕ) → Option (MakeError F)
bytes_fault facts entries =
    first_of (λ entry. first_of (byte_told facts entry.1) (range_with_len 0 (length (content_at facts entry.1))))
    entries

-- why there is no plan, the first that there is: the refusals of `make`, then the lengths (profile)
abbrev pub plan_fault : {F : Type 0} → SourceFacts F → Order → ListOf (ListOf (ListOf ℕ)) → Option (MakeError F)
plan_fault facts order paths = option_or (make_refusal order paths) (asked_fault facts (length paths))

-- the first that there is: what is one of a plan, then the bytes
abbrev pub fault_of : {F : Type 0} → SourceFacts F → Order → ListOf (ListOf (ListOf ℕ)) →
    ListOf (ListOf (ListOf ℕ) × ℕ) → Option (MakeError F)
fault_of facts order paths entries = option_or (plan_fault facts order paths) (bytes_fault facts entries)

-- the first of all: the refusals, the lengths, the bytes. The entries are the paths in order, each with its index
-- (profile)
pub record IsMakeFault {F : Type 0} (facts : SourceFacts F) (order : Order) (paths : ListOf (ListOf (ListOf ℕ)))
    (fault : Option (MakeError F)) : Type 0 where
  pub entries : ListOf (ListOf (ListOf ℕ) × ℕ)
  pub indexed : plan_fault facts order paths ≡ None → AreIndexedPaths paths entries × IsInPathOrder entries
  pub is_first : fault_of facts order paths entries ≡ fault

-- the torrent of some files with these paths, letters and told lengths. They are in the order of their paths, and the
-- length is one that was told of the file under the path's index (profile)
pub record IsMadeOfTold {F : Type 0} (answers : Answers F) (settings : Settings)
    (files : ListOf (ListOf (ListOf ℕ) × Attr)) (bytes : ListOf ℕ) : Type 0 where
  pub entries : ListOf (ListOf (ListOf ℕ) × ℕ)
  pub contents : ListOf (ListOf ℕ)
  pub indexed : AreIndexedPaths (paths_of files) entries × IsInPathOrder entries
  pub one_each : length contents ≡ length entries
  pub are_told : (k : ℕ) → k < length entries →
      answers.told (slice_index_or (indices_of entries) k 0) (Some (length (slice_index_or contents k [])))
  pub made : bytes ≡ metainfo settings (files_with (lettered files entries) contents)

-- a length was told of this file, and the source does not keep to it (profile)
abbrev pub IsToldChanged : {F : Type 0} → Answers F → ℕ → Type 0
IsToldChanged answers file = (size : ℕ) × answers.told file (Some size) × Departs answers file (Some size)

-- lengths were told of so many files that are too large for a list (profile)
abbrev pub AreToldTooLarge : {F : Type 0} → Answers F → ℕ → Type 0
AreToldTooLarge answers count =
    (lengths : ListOf ℕ) × (length lengths ≡ count) × HasToldLengths answers lengths
    × (lengths_fault lengths ≡ Some TooLarge)

-- what is answered of the source it gave or told. It is so of any source, steady or not: a fault for this file and
-- offset, that a file is missing, lengths that it did not keep to, or that are too large; the file that is named is one
-- of so many; no stream is read (profile)
abbrev pub IsGivenTo : {F : Type 0} → Answers F → ℕ → MakeError F → Type 0
IsGivenTo answers count (Hashing error) = HasCause (record {
  count = count;
  fault = answers.gave;
  changed = IsToldChanged answers;
  missing = λ file. answers.told file None;
}) error
IsGivenTo answers count (List TooLarge) = AreToldTooLarge answers count
IsGivenTo answers count other = Unit {0}

-- a refusal that is answered is the first that there is. It is one of the order or the paths; other answers are of the
-- source or its lengths, or want of memory (profile)
abbrev pub IsOwn : {F : Type 0} → Option (MakeError F) → MakeError F → Type 0
IsOwn first (Hashing error) = Unit {0}
IsOwn first (List TooLarge) = Unit {0}
IsOwn first error = first ≡ Some error
