-- What `tor make --plan --part` and `tor join` do. No contract says which bytes a file of the system has, so a clause
-- speaks of some bytes: those that the program took for the file's.
use Rattle.std.specs.Prelude.{◌≡◌, ◌≢◌, ◌⊎◌, ℕ, [], IsSome, List, None, Option, Some, length, map, option_map}
use Rattle.std.specs.Prelude.{◌&&◌, ◌==◌, ◌∷◌, Bool, if◌then◌else◌, slice_index_or, string_bytes}
use Rattle.std.specs.declared.io.Error.{Error}
use Rattle.tor_merkle.specs.Layer.{pieces_root}
use Rattle.tor_meta.specs.Listing.{IsPlanRefusal, listing_refusal}
use Rattle.tor_meta.specs.Lots.{IsJoinRefusal, IsJoined, IsLotOf, plan_of_text}
use Rattle.tor_meta.specs.MakeError.{of_engine_error, out_of_resources}
use Rattle.tor_meta.specs.PlanText.{IsPlanText, PlanText, plan_bytes}
use Rattle.tor_meta.specs.declared.join_error.JoinError.{JoinError}
use Rattle.tor_meta.specs.declared.join_error.JoinError.TheVariants as joins
use Rattle.tor_meta.specs.declared.listing_error.PlanError.TheVariants as plans
use Rattle.tor_meta.specs.declared.make_error.MakeError.TheVariants.{Workers}
use Rattle.tor_parts.specs.Dealing.{dealt}
use Rattle.tor_parts.specs.OwnFiles.{IsGivenOwn, IsOfFiles, files_of}
use Rattle.tor_source.specs.Answers.{system_answers}
use Rattle.tor_source.specs.Places.{place_of}
use Rattle.tor_sums.specs.How.{IsHow}
use Rattle.tor_sums.specs.declared.errors.EngineError.{EngineError}
use Rattle.tor_tree.specs.FileList.{lengths_of}
use Rattle.tor_report.specs.Escape.{escaped}
use Rattle.tor_cli.specs.Foreign.{OfSome}
use Rattle.tor_cli.specs.make.Request.{Sends, SendsFront}
use Rattle.tor_cli.specs.Status.{of_plan_error}
use Rattle.tor_cli.specs.Streams.{IsUntouched, Streams}
use Rattle.tor_cli.specs.declared.fault.Fault.{Fault}
use Rattle.tor_cli.specs.declared.fault.Fault.TheVariants.{Join, Make, OutAmongFiles, Plan, Read, Scan, TooLong, Write}
use Rattle.tor_cli.specs.declared.fault.Fault.TheVariants.{Resources}
use Rattle.tor_source.specs.declared.faults.ScanFault.TheVariants.{System}
use Rattle.tor_cli.specs.declared.lots.join_words.JoinOptions.{JoinOptions}
use Rattle.tor_cli.specs.declared.lots.lot_words.LotOptions.{LotOptions}
use Rattle.tor_cli.specs.declared.lots.lot_number.LotNumber.{LotNumber}

-- what the plan that has these bytes tells, of which a torrent is made, and of which this holds
abbrev pub OfPlan : List ℕ → (PlanText → Type 0) → Type 0
OfPlan plan Holds = (text : PlanText) × IsPlanText text × (plan ≡ plan_bytes text) × (listing_refusal text ≡ None)
    × Holds text

-- the bytes are this lot of the plan that has these bytes, of some contents that have its lengths (profile)
abbrev pub IsLotAt : LotNumber → List ℕ → List ℕ → Type 0
IsLotAt lot plan bytes = OfPlan plan (λ text. (contents : List (List ℕ))
    × (map length contents ≡ lengths_of text.list.files)
    × IsLotOf (plan_of_text text) (pieces_root plan) lot.lots lot.number contents bytes)

-- the file that the bytes go to, if it is not the writer
abbrev pub file_of_lot : LotOptions → Option (List ℕ)
file_of_lot options = option_map (λ place. place.now) options.out

-- why workers that may hash a lot of the plan, which is to go to this file if there is one, do not: it is no plan; a
-- fault of one of the lot's own files; the file that the lot is to go to is one of the plan's, or the system does not
-- tell of one; or that file cannot be written
abbrev pub IsNoLotOf : LotOptions → List ℕ → Fault → Type 0
IsNoLotOf options plan (Plan error) = IsPlanRefusal plan error × (error ≢ plans.Memory)
IsNoLotOf options plan (Make error) = OfPlan plan (λ text. (fault : EngineError Error)
    × (error ≡ of_engine_error fault) × (error ≢ out_of_resources)
    × IsGivenOwn (system_answers (length text.list.files)) (lengths_of text.list.files) fault
    × IsOfFiles (files_of (dealt options.lot.lots options.lot.number (plan_of_text text).units)) fault)
IsNoLotOf options plan OutAmongFiles = IsSome (file_of_lot options)
IsNoLotOf options plan (Scan System) = IsSome (file_of_lot options)
IsNoLotOf options plan (Write written) = (written ≡ 0) × IsSome (file_of_lot options)
IsNoLotOf options plan _ = ⊥

-- why there is no lot of the plan: there is no worker or too many, which comes first; or another reason
abbrev pub IsNoLot : LotOptions → List ℕ → Fault → Type 0
IsNoLot options plan (Make Workers) = IsHow options.how → ⊥
IsNoLot options plan Resources = Unit {0}
IsNoLot options plan fault = IsHow options.how × IsNoLotOf options plan fault

-- where the files of a plan stand: the one file of a torrent that is one, or those below the folder (profile)
abbrev pub places_of_list : List ℕ → Bool → List (List (List ℕ)) → List (List ℕ)
places_of_list place single paths =
    if single && (length paths == 1) then place ∷ [] else map (place_of place) paths

-- some bytes of a plan, of which there is no lot
abbrev pub OfNoLot : LotOptions → Fault → Type 0
OfNoLot options fault = OfSome (λ plan. IsNoLot options plan fault)

-- what is written of a lot by workers that may hash it: it, and nothing else (profile)
abbrev pub DoesLot : LotOptions → Streams → Type 0
DoesLot options s = IsHow options.how × (s.reader' ≡ s.reader)
    × OfSome (λ plan. (bytes : List ℕ) × IsLotAt options.lot plan bytes
    × Sends (file_of_lot options) s.writer s.writer' bytes)

-- if this fault stopped it (profile)
abbrev pub StopsLot : LotOptions → Streams → Fault → Type 0
StopsLot options s (Read fault) = IsUntouched s
StopsLot options s TooLong = IsUntouched s
StopsLot options s (Write written) = (OfNoLot options (Write written) × IsUntouched s)
    ⊎ (IsHow options.how × (s.reader' ≡ s.reader) × OfSome (λ plan. (bytes : List ℕ)
    × IsLotAt options.lot plan bytes × SendsFront (file_of_lot options) s.writer s.writer' written bytes))
StopsLot options s fault = OfNoLot options fault × IsUntouched s

-- some texts, one for each part that the words name
abbrev pub OfParts : JoinOptions → (List (List ℕ) → Type 0) → Type 0
OfParts options Holds = (texts : List (List ℕ)) × (length texts ≡ length options.parts.items) × Holds texts

-- the bytes are the torrent that the plan and the parts are joined to (profile)
abbrev pub IsTorrentOfParts : JoinOptions → List ℕ → Type 0
IsTorrentOfParts options torrent = OfSome (λ plan. OfParts options (λ texts. IsJoined plan texts torrent))

-- why they are not joined
abbrev pub IsNotJoined : JoinOptions → JoinError → Type 0
IsNotJoined options error = OfSome (λ plan. OfParts options (λ texts. IsJoinRefusal plan texts error))

-- the number of the part that an error is for, if it is for one
abbrev pub number_of_part : JoinError → Option ℕ
number_of_part (joins.NoPart word) = Some word
number_of_part (joins.OtherPlan word) = Some word
number_of_part (joins.OtherParts word) = Some word
number_of_part (joins.Twice word) = Some word
number_of_part (joins.Length word) = Some word
number_of_part other = None

-- the part of this number, of those that the words name, as it is printed
abbrev pub part_text : List (List ℕ) → Option ℕ → List ℕ
part_text words None = []
part_text words (Some number) = escaped (slice_index_or words number [])

-- a fault of a part, or of all: this error, with the part that it is for
abbrev pub IsFaultOfParts : List (List ℕ) → JoinError → Fault → Type 0
IsFaultOfParts words error (Join told part) =
    (told ≡ error) × (string_bytes part ≡ part_text words (number_of_part error))
IsFaultOfParts words error _ = ⊥

-- the fault of the program that an error of joining these parts is
abbrev pub IsJoinFault : List (List ℕ) → JoinError → Fault → Type 0
IsJoinFault words joins.Memory fault = fault ≡ Resources
IsJoinFault words (joins.Plan error) fault = fault ≡ of_plan_error error
IsJoinFault words error fault = IsFaultOfParts words error fault

-- the words for the parts
abbrev pub words_of_parts : JoinOptions → List (List ℕ)
words_of_parts options = map (λ part. part.now) options.parts.items

abbrev pub file_of_join : JoinOptions → Option (List ℕ)
file_of_join options = option_map (λ place. place.now) options.out

-- what is written of a plan and its parts: the torrent, and nothing else (profile)
abbrev pub DoesJoin : JoinOptions → Streams → Type 0
DoesJoin options s = (s.reader' ≡ s.reader) × ((torrent : List ℕ) × IsTorrentOfParts options torrent
    × Sends (file_of_join options) s.writer s.writer' torrent)

-- if this fault stopped it (profile)
abbrev pub StopsJoining : JoinOptions → Streams → Fault → Type 0
StopsJoining options s (Plan error) =
    OfSome (λ plan. IsPlanRefusal plan error) × (error ≢ plans.Memory) × IsUntouched s
StopsJoining options s (Join error part) = IsNotJoined options error × (error ≢ joins.Memory)
    × (string_bytes part ≡ part_text (words_of_parts options) (number_of_part error)) × IsUntouched s
StopsJoining options s (Read fault) = IsUntouched s
StopsJoining options s TooLong = IsUntouched s
StopsJoining options s (Write written) = (s.reader' ≡ s.reader) × ((torrent : List ℕ)
    × IsTorrentOfParts options torrent × SendsFront (file_of_join options) s.writer s.writer' written torrent)
StopsJoining options s Resources = IsUntouched s
StopsJoining options s other = ⊥
