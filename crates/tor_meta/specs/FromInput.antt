-- What `make_from` reads and writes.
use Rattle.std.specs.Prelude.{◌≡◌, ◌⊎◌, ℕ, List, [], ◌∷◌, Option, None, Some}
use Rattle.std.specs.Io.KnownBytes.{Appends, Keeps}
use Rattle.std.specs.declared.io.Error.{Error}
use Rattle.tor_meta.specs.Contents.{one_file}
use Rattle.tor_meta.specs.Make.{make_refusal}
use Rattle.tor_meta.specs.MakeStreams.{stream_refusal}
use Rattle.tor_meta.specs.Order.{settings_of_order}
use Rattle.tor_meta.specs.declared.make_error.MakeError.{MakeError}
use Rattle.tor_meta.specs.MakeError.{out_of_resources}
use Rattle.tor_meta.specs.declared.order.Order.{Order}
use Rattle.tor_spec.specs.Metainfo.{metainfo}
use Rattle.tor_source.specs.Input.{ReadsAll, ReadsSome, EndsInput}
use Rattle.tor_source.specs.declared.input.TheConstants.{MAX_INPUT_LENGTH}
use Rattle.tor_tree.specs.Letters.{no_letters}
use Rattle.tor_tree.specs.declared.attr.Attr.{Attr}
use Rattle.tor_meta.specs.declared.from_input.FromFault.{FromFault}
use Rattle.tor_spec.specs.Output.{IsFront}
use Rattle.tor_meta.specs.declared.from_input.FromFault.TheVariants.{Input, Make, Write}

-- the torrent of one content under the torrent's name, with these letters
abbrev pub torrent_of : Order → Attr → List ℕ → List ℕ
torrent_of order attr content = metainfo (settings_of_order order) (one_file order.name content attr)

-- why no torrent is made of one content under the torrent's name
abbrev pub refusal_of : Order → Option (MakeError Error)
refusal_of order = make_refusal order ((order.name ∷ []) ∷ [])

-- the same if the content is read as a stream, of which a unit of over 2^30 bytes is refused
abbrev pub stream_refusal_of : Order → Option (MakeError Error)
stream_refusal_of order = stream_refusal order ((order.name ∷ []) ∷ [])

-- there is no refusal, all that the reader had was read, and of its torrent with these letters this holds
pub record MakesOf (refusal : Option (MakeError Error)) (order : Order) (attr : Attr)
    (reader reader' : Option (List ℕ)) (Holds : List ℕ → Type 0) (content : List ℕ) : Type 0 where
  pub read : ReadsAll reader reader' content
  pub accepted : refusal ≡ None
  pub torrent : Holds (torrent_of order attr content)

-- what `make_from` reads and writes at Ok. All that the reader had was read, and its torrent, and nothing else, was
-- written (profile)
abbrev pub MakesWhole : Order → Option (List ℕ) → Option (List ℕ) → Option (List ℕ) → Option (List ℕ) → List ℕ → Type 0
MakesWhole order reader reader' writer writer' =
    MakesOf (refusal_of order) order no_letters reader reader' (Appends writer writer')

-- at a fault of the writer. All that the reader had was read, and so many bytes of its torrent, and nothing else, were
-- written (profile)
abbrev pub MakesFront : Order → Option (List ℕ) → Option (List ℕ) → Option (List ℕ) → Option (List ℕ) → ℕ → List ℕ
    → Type 0
MakesFront order reader reader' writer writer' written =
    MakesOf (refusal_of order) order no_letters reader reader' (IsFront writer writer' written)

-- what was read if no torrent is made, for this refusal if there is one
abbrev pub StopsReading : Option (MakeError Error) → Option (List ℕ) → Option (List ℕ) → FromFault → Type 0
-- some bytes were read
StopsReading refusal reader reader' (Input fault) = ReadsSome reader reader' (EndsInput MAX_INPUT_LENGTH fault)
-- all was read, and it is refused
StopsReading refusal reader reader' (Make error) =
    (content : List ℕ) × ReadsAll reader reader' content × ((refusal ≡ Some error) ⊎ (error ≡ out_of_resources))
StopsReading refusal reader reader' (Write fault) = ⊥

-- what it reads and writes at each fault (profile)
abbrev pub MakesPart : Order → Option (List ℕ) → Option (List ℕ) → Option (List ℕ) → Option (List ℕ) → FromFault
    → Type 0
-- all was read, and a front of its torrent was written
MakesPart order reader reader' writer writer' (Write fault) =
    (content : List ℕ) × MakesFront order reader reader' writer writer' fault.written content
-- there is no torrent, and nothing was written
MakesPart order reader reader' writer writer' fault =
    StopsReading (refusal_of order) reader reader' fault × Keeps writer writer'
