-- What the program does for a request: what it reads and writes, and where a fault stops it.
use Rattle.std.specs.Prelude.{◌≡◌, ◌⊎◌, ◌<◌, ◌≤◌, ◌≢◌, ◌∷◌, [], ℕ, Bool, List, length, true, option_map, Option, None}
use Rattle.std.specs.Prelude.{Some, IsSome, IfErr, IfOk, OnOk, Result, Vec}
use Rattle.std.specs.declared.alloc.Global.{Global}
use Rattle.std.specs.Io.KnownBytes.{Appends, Keeps}
use Rattle.std.specs.declared.io.Error.{Error}
use Rattle.tor_sums.specs.How.{workers_of}
use Rattle.tor_meta.specs.Contents.{IsMadeOfSome}
use Rattle.tor_meta.specs.Make.{IsOwn}
use Rattle.tor_meta.specs.Order.{settings_of_order}
use Rattle.tor_meta.specs.declared.make_error.MakeError.{MakeError}
use Rattle.tor_meta.specs.MakeError.{out_of_resources}
use Rattle.tor_meta.specs.declared.order.Order.{Order}
use Rattle.tor_spec.specs.Settings.{Settings}
use Rattle.tor_tree.specs.FileList.{paths_of}
use Rattle.tor_tree.specs.Name.{name_fault}
use Rattle.tor_tree.specs.declared.attr.Attr.{Attr}
use Rattle.tor_cli.specs.make.CheckAfter.{IsAsMade, IsNotAsMade}
use Rattle.tor_source.specs.Input.{ReadsAll, ReadsSome, EndsInput}
use Rattle.tor_spec.specs.Output.{IsFront}
use Rattle.tor_meta.specs.FromInput.{MakesOf}
use Rattle.tor_cli.specs.make.Attrs.{HaveLetters, IsNotLettered}
use Rattle.tor_cli.specs.Place.{AreFilesAt, IsChosenMissing, IsGivenBy, IsNotFound, refusal_by}
use Rattle.tor_cli.specs.make.ChosenFiles.{IsChoice, IsNoChoice}
use Rattle.tor_cli.specs.Streams.{IsUntouched, Streams}
use Rattle.tor_cli.specs.Words.{how_of, length_for}
use Rattle.tor_source.specs.declared.input.TheConstants.{MAX_INPUT_LENGTH}
use Rattle.tor_source.specs.declared.input.InputFault.{InputFault}
use Rattle.tor_source.specs.declared.input.InputFault.TheVariants as inputs
use Rattle.tor_cli.specs.declared.make.options.MakeOptions.{MakeOptions}
use Rattle.tor_cli.specs.declared.fault.Fault.{Fault}
use Rattle.tor_cli.specs.declared.fault.Fault.TheVariants.{Usage, Name, Scan, Make, Refused, Piece, Recheck, Argument}
use Rattle.tor_cli.specs.declared.fault.Fault.TheVariants.{NotAsMade, OutAmongFiles, Read, TooLong, Write, Resources}
use Rattle.tor_cli.specs.declared.fault.Fault.TheVariants.{Plan as PlanFault, Join as JoinFault}

-- the settings that the options ask for, of pieces of so many bytes. They are of one file or of a folder (profile)
abbrev pub settings_of_options : MakeOptions → Bool → ℕ → Settings
settings_of_options options single length = record {
  kind = options.kind;
  single = single;
  name = options.name.now;
  piece_length = length;
  announce = option_map (λ url. url.now) options.announce;
  is_private = options.is_private;
  tail = options.tail;
}

-- the order that the options ask for. What files have together no contract says, so that a piece length that suits them
-- is one of some size (profile)
pub record IsOrder (options : MakeOptions) (single : Bool) (order : Order) : Type 0 where
  pub settings : settings_of_order order ≡ settings_of_options options single order.piece_length
  pub piece_length : (size : ℕ) × (order.piece_length ≡ length_for options.piece_length size)
  pub how : order.how ≡ how_of options.way
  pub span : order.span ≡ options.span

-- the file that the torrent goes to, if it is not the writer
abbrev pub file_of : MakeOptions → Option (List ℕ)
file_of options = option_map (λ place. place.now) options.out

-- these bytes, and nothing else, went to the writer, or to a file, of which no contract says what it holds
abbrev pub Sends : Option (List ℕ) → Option (List ℕ) → Option (List ℕ) → List ℕ → Type 0
Sends None writer writer' bytes = Appends writer writer' bytes
Sends (Some place) writer writer' bytes = writer' ≡ writer

-- so many of these bytes, and nothing else, did
abbrev pub SendsFront : Option (List ℕ) → Option (List ℕ) → Option (List ℕ) → ℕ → List ℕ → Type 0
SendsFront None writer writer' written bytes = IsFront writer writer' written bytes
SendsFront (Some place) writer writer' written bytes = (written < length bytes) × (writer' ≡ writer)

-- the file that has the letters of the files, if one is named
abbrev pub attrs_of : MakeOptions → Option (List ℕ)
attrs_of options = option_map (λ place. place.now) options.attrs

-- the order that the options ask for of one file, and its letters
pub record IsOrderOfOne (options : MakeOptions) (order : Order) (attr : Attr) : Type 0 where
  pub name : name_fault options.name.now ≡ None
  pub ordered : IsOrder options true order
  pub lettered : HaveLetters (attrs_of options) ((options.name.now ∷ [], attr) ∷ [])

-- why no torrent is made of what the reader has
abbrev pub input_refusal : MakeOptions → Order → Option (MakeError Error)
input_refusal options order = refusal_by options.way order ((order.name ∷ []) ∷ [])

-- what is read and written if the reader has the one file. The torrent that the options ask for was made of all that
-- the reader had (profile)
abbrev pub DoesInput : MakeOptions → Streams → Type 0
DoesInput options s = (order : Order) × (attr : Attr) × IsOrderOfOne options order attr
    × ((content : List ℕ) × MakesOf (input_refusal options order) order attr s.reader s.reader'
    (Sends (file_of options) s.writer s.writer') content)

-- all that the reader had was read, and nothing was written
abbrev pub OnlyReads : Streams → Type 0
OnlyReads s = ((content : List ℕ) × ReadsAll s.reader s.reader' content) × Keeps s.writer s.writer'

-- the input ended in this fault, and nothing was written
abbrev pub FailsInput : InputFault → Streams → Type 0
FailsInput fault s = ReadsSome s.reader s.reader' (EndsInput MAX_INPUT_LENGTH fault) × Keeps s.writer s.writer'

-- all that the reader had was read, and this kept the one file from its letters
abbrev pub FailsAttrs : MakeOptions → Fault → Streams → Type 0
FailsAttrs options fault s = (name_fault options.name.now ≡ None)
    × IsNotLettered (attrs_of options) ((options.name.now ∷ []) ∷ []) fault × OnlyReads s

-- if this fault stopped that (profile)
abbrev pub StopsInput : MakeOptions → Streams → Fault → Type 0
StopsInput options s (Usage line) = ⊥
StopsInput options s (Name fault) = (name_fault options.name.now ≡ Some fault) × OnlyReads s
StopsInput options s (Scan fault) = ⊥
StopsInput options s (Refused refusal) = ⊥
StopsInput options s (Piece error) = ⊥
StopsInput options s (Recheck error) = ⊥
StopsInput options s (PlanFault error) = ⊥
StopsInput options s (JoinFault error part) = ⊥
StopsInput options s (NotAsMade good pieces) = ⊥
StopsInput options s OutAmongFiles = ⊥
StopsInput options s (Argument fault) = FailsAttrs options (Argument fault) s
StopsInput options s (Make error) = ((order : Order) × (attr : Attr) × IsOrderOfOne options order attr
    × (input_refusal options order ≡ Some error)) × OnlyReads s
StopsInput options s (Read fault) = FailsInput (inputs.Read fault) s ⊎ FailsAttrs options (Read fault) s
StopsInput options s TooLong = FailsInput inputs.TooLong s ⊎ FailsAttrs options TooLong s
StopsInput options s (Write written) = (order : Order) × (attr : Attr) × IsOrderOfOne options order attr
    × ((content : List ℕ)
    × MakesOf (input_refusal options order) order attr s.reader s.reader'
    (SendsFront (file_of options) s.writer s.writer' written) content)
StopsInput options s Resources = FailsInput inputs.Memory s

-- the order that the options ask for, and the paths of the files at their place, each with its letters. A list may have
-- chosen the files
pub record IsOrderOf (options : MakeOptions) (chosen : Option (List (List (List ℕ)))) (order : Order)
    (files : List (List (List ℕ) × Attr)) : Type 0 where
  pub name : name_fault options.name.now ≡ None
  pub ordered : IsOrder options order.single order
  pub found : AreFilesAt options.name.now chosen order.single (paths_of files)
  pub lettered : HaveLetters (attrs_of options) files

-- the bytes are a torrent as asked for, of some files as found. It is that of the order that the options ask for, which
-- is not refused for the files' paths, and of some files that have those paths and the letters (profile)
abbrev pub IsTorrentAt : MakeOptions → Option (List (List (List ℕ))) → List ℕ → Type 0
IsTorrentAt options chosen torrent = (order : Order) × (files : List (List (List ℕ) × Attr))
    × IsOrderOf options chosen order files
    × (refusal_by options.way order (paths_of files) ≡ None) × IsMadeOfSome (settings_of_order order) files torrent

-- if there is a refusal, no fault of a file stops it before that (profile)
abbrev pub IsRefusedFirst : Option (MakeError Error) → MakeError Error → Type 0
IsRefusedFirst first error = (refusal : MakeError Error) → first ≡ Some refusal
    → (error ≡ out_of_resources) ⊎ (error ≡ refusal)

-- what is answered of files that were found, if this keeps their order from being done, and this may be told of one of
-- them: the torrent of some contents of theirs, or why there is none
pub record IsMadeOfFound (first : Option (MakeError Error)) (may_tell : MakeError Error → Type 0) (order : Order)
    (files : List (List (List ℕ) × Attr)) (result : Result (Vec ℕ Global) (MakeError Error)) : Type 0 where
  pub whole : IfOk result (λ bytes. IsMadeOfSome (settings_of_order order) files bytes.items)
  pub accepted : OnOk result (first ≡ None)
  pub refused : IfErr result (IsRefusedFirst first)
  pub only : IfErr result (IsOwn first)
  pub gave : IfErr result may_tell

-- why there is no torrent of the files at a place
abbrev pub StopsFinding : MakeOptions → Option (List (List (List ℕ))) → Fault → Type 0
StopsFinding options chosen (Name fault) = name_fault options.name.now ≡ Some fault
StopsFinding options chosen (Make error) =
    ((name_fault options.name.now ≡ None) × IsChosenMissing chosen error)
    ⊎ ((order : Order) × (files : List (List (List ℕ) × Attr))
    × IsOrderOf options chosen order files × IsOwn (refusal_by options.way order (paths_of files)) error
    × IsRefusedFirst (refusal_by options.way order (paths_of files)) error
    × IsGivenBy options.way (length files) error × (error ≢ out_of_resources))
-- which file is at a place, and whether it can be written, no contract says
StopsFinding options chosen OutAmongFiles = (name_fault options.name.now ≡ None) × IsSome (file_of options)
    × ((single : Bool) × (files : List (List (List ℕ) × Attr))
    × AreFilesAt options.name.now chosen single (paths_of files) × HaveLetters (attrs_of options) files)
StopsFinding options chosen (Write written) = (written ≡ 0) × (name_fault options.name.now ≡ None)
    × IsSome (file_of options) × ((single : Bool) × (files : List (List (List ℕ) × Attr))
    × AreFilesAt options.name.now chosen single (paths_of files) × HaveLetters (attrs_of options) files)
StopsFinding options chosen Resources = Unit {0}
StopsFinding options chosen fault =
    (name_fault options.name.now ≡ None) × IsNotFound options.name.now chosen (attrs_of options) fault

-- bytes of such a torrent that may go out. If that is asked for, each of its pieces was found there and right
-- afterwards (profile)
abbrev pub IsTorrentToSend : MakeOptions → Option (List (List (List ℕ))) → List ℕ → Type 0
IsTorrentToSend options chosen torrent = IsTorrentAt options chosen torrent
    × (options.check_after ≡ true → IsAsMade torrent)

-- why none go out. There are none; or they were asked for their pieces, and not all were found (profile)
abbrev pub StopsSending : MakeOptions → Option (List (List (List ℕ))) → Fault → Type 0
StopsSending options chosen fault = StopsFinding options chosen fault
    ⊎ ((options.check_after ≡ true) × ((torrent : List ℕ) × IsTorrentAt options chosen torrent
    × IsNotAsMade (workers_of (how_of options.way)) torrent fault))

-- what is written if PATH has the files. A torrent was made of the files at a place, of which no contract says what
-- they hold (profile)
abbrev pub DoesFiles : MakeOptions → Option (List (List (List ℕ))) → Streams → Type 0
DoesFiles options chosen s = (s.reader' ≡ s.reader)
    × ((torrent : List ℕ) × IsTorrentToSend options chosen torrent × Sends (file_of options) s.writer s.writer' torrent)

-- if this fault stopped that. Nothing was written, or a front of a torrent (profile)
abbrev pub StopsFiles : MakeOptions → Option (List (List (List ℕ))) → Streams → Fault → Type 0
StopsFiles options chosen s (Write written) = (StopsSending options chosen (Write written) × IsUntouched s)
    ⊎ ((s.reader' ≡ s.reader) × ((torrent : List ℕ) × IsTorrentToSend options chosen torrent
    × SendsFront (file_of options) s.writer s.writer' written torrent))
StopsFiles options chosen s fault = StopsSending options chosen fault × IsUntouched s

-- the word for the list that chooses files, if there is one
abbrev pub list_of : MakeOptions → Option (List ℕ)
list_of options = option_map (λ word. word.now) options.list

-- the streams, once the reader has given what it has now
abbrev pub read_before : Streams → Streams
read_before s = record s { reader = s.reader' }

-- what is read and written if PATH has the files. If a list chooses them, it was read before (profile)
abbrev pub DoesPlace : MakeOptions → Streams → Type 0
DoesPlace options s = (chosen : Option (List (List (List ℕ))))
    × IsChoice (list_of options) s.reader s.reader' chosen × DoesFiles options chosen (read_before s)

-- if this fault stopped that: it is of the list, or came after it (profile)
abbrev pub StopsPlace : MakeOptions → Streams → Fault → Type 0
StopsPlace options s fault =
    (IsNoChoice (list_of options) s.reader s.reader' fault × (s.writer' ≡ s.writer))
    ⊎ ((chosen : Option (List (List (List ℕ)))) × IsChoice (list_of options) s.reader s.reader' chosen
    × StopsFiles options chosen (read_before s) fault)

-- of the reader, or of the files at a place
abbrev pub DoesFrom : Option (List ℕ) → MakeOptions → Streams → Type 0
DoesFrom None options s = DoesInput options s
DoesFrom (Some place) options s = DoesPlace options s

abbrev pub StopsFrom : Option (List ℕ) → MakeOptions → Streams → Fault → Type 0
StopsFrom None options s fault = StopsInput options s fault
StopsFrom (Some place) options s fault = StopsPlace options s fault

abbrev pub DoesMake : MakeOptions → Streams → Type 0
DoesMake options s = DoesFrom (option_map (λ place. place.now) options.place) options s

abbrev pub StopsMake : MakeOptions → Streams → Fault → Type 0
StopsMake options s fault = StopsFrom (option_map (λ place. place.now) options.place) options s fault
