-- What the program prints of the pieces and the files of a torrent: which are there and right. No contract says which
-- bytes a file of the system has, so a clause speaks of some bytes, those that the program took for FILE's, of some
-- bits, those that were answered of the torrent's pieces, one for each, and of what was answered of each file.
use Rattle.std.specs.Prelude.{◌≡◌, ◌≢◌, ◌==◌, ℕ, Bool, false, true, List, [], ◌++◌, length, decimal, codes}
use Rattle.std.specs.Io.KnownBytes.{Appends}
use Rattle.std.specs.declared.io.Error.{Error}
use Rattle.hex.specs.Hex.{encode_lower}
use Rattle.tor_check.specs.Valid.{IsTold}
use Rattle.tor_sums.specs.How.{IsHow}
use Rattle.tor_sums.specs.declared.how.How.TheVariants.{Board}
use Rattle.tor_view.specs.Bitfield.{bitfield, set_count}
use Rattle.tor_recheck.specs.Findings.{AreFoundWithin}
use Rattle.tor_recheck.specs.Readable.{IsNoReadFault}
use Rattle.tor_recheck.specs.Recheck.{IsGiven}
use Rattle.tor_view.specs.declared.files.FileFound.{FileFound}
use Rattle.tor_view.specs.declared.files.FileState.TheVariants.{Link, Unreadable}
use Rattle.tor_recheck.specs.declared.rechecking_files.Findings.{Findings}
use Rattle.tor_recheck.specs.declared.errors.RecheckError.{RecheckError}
use Rattle.tor_recheck.specs.declared.errors.RecheckError.TheVariants as rechecks
use Rattle.tor_source.specs.declared.faults.ScanFault.{ScanFault}
use Rattle.tor_source.specs.declared.faults.ScanFault.TheVariants as scans
use Rattle.tor_spec.specs.valid.View.{View}
use Rattle.tor_cli.specs.Foreign.{IsNoTorrent, OfSome}
use Rattle.tor_cli.specs.recheck.BadBytes.{AreBytesFound}
use Rattle.tor_cli.specs.recheck.FoundFiles.{told_of_files, with_state}
use Rattle.tor_spec.specs.Output.{IsFront}
use Rattle.tor_spec.specs.declared.hashes.Hashes.{Hashes}
use Rattle.tor_report.specs.Told.{Describes}
use Rattle.tor_source.specs.Answers.{system_answers}
use Rattle.tor_cli.specs.proof.Proving.{answer_of}
use Rattle.tor_cli.specs.text.Records.{recheck_line}
use Rattle.tor_cli.specs.Streams.{IsUntouched, Streams}
use Rattle.tor_cli.specs.recheck.Whereabouts.{looked_for}
use Rattle.tor_cli.specs.declared.answer.Answer.{Answer}
use Rattle.tor_cli.specs.declared.fault.Fault.{Fault}
use Rattle.tor_cli.specs.declared.recheck.bytes_found.BytesFound.{BytesFound}
use Rattle.tor_cli.specs.declared.recheck.listing.Form.{Form}
use Rattle.tor_cli.specs.declared.recheck.listing.Form.TheVariants.{Brief, Json, Text}
use Rattle.tor_cli.specs.declared.recheck.listing.FileListing.{FileListing}
use Rattle.tor_cli.specs.declared.recheck.listing.FileListing.TheVariants.{BadPaths}
use Rattle.tor_cli.specs.declared.recheck.words.RecheckOptions.{RecheckOptions}
use Rattle.tor_cli.specs.declared.recheck.whereabouts.Standing.{Standing}
use Rattle.tor_cli.specs.declared.recheck.whereabouts.Whereabouts.TheVariants.{Nowhere}
use Rattle.tor_cli.specs.declared.fault.Fault.TheVariants.{Scan, Refused, Recheck, Read, TooLong, Write, Resources}

-- how many pieces are there and right, of how many
abbrev pub counts_text : List Bool → List ℕ
counts_text bits =
    codes "pieces " ++ (decimal (set_count bits) ++ (codes " of " ++ (decimal (length bits) ++ codes "\n")))

-- the same, and a line with the digits of the bitfield
abbrev pub recheck_text : List Bool → List ℕ
recheck_text bits =
    codes "pieces " ++ (decimal (set_count bits)
    ++ (codes " of " ++ (decimal (length bits)
    ++ (codes "\nbits " ++ (encode_lower (bitfield bits) ++ codes "\n")))))

-- yes where each piece is there and right
abbrev pub recheck_answer : List Bool → Answer
recheck_answer bits = answer_of (set_count bits == length bits)

-- what is printed of the pieces; nothing where paths alone are asked for
abbrev pub pieces_text : Form → FileListing → List Bool → List ℕ
pieces_text form BadPaths bits = []
pieces_text Brief listing bits = counts_text bits
pieces_text form listing bits = recheck_text bits

-- what is told of the pieces, and then of the files; or the record of both, with the bytes that do not hold
abbrev pub IsText : Form → FileListing → View → Hashes → List Bool → List FileFound → List ℕ → Type 0
IsText Json listing view hashes bits found text =
    (told : List BytesFound) × AreBytesFound view bits found told × (text ≡ recheck_line listing view hashes bits told)
IsText form listing view hashes bits found text =
    text ≡ pieces_text form listing bits ++ told_of_files listing found view.files

-- what a recheck prints: its lines and what is listed, or one object. It is printed of these bits and these files (BEP
-- 3, "peer messages"; profile)
pub record IsReport (options : RecheckOptions) (view : View) (hashes : Hashes) (bits : List Bool)
    (found : List FileFound) (text : List ℕ) (answer : Answer) : Type 0 where
  pub printed : IsText options.form options.listing view hashes bits found text
  pub answered : answer ≡ recheck_answer bits

-- why a torrent's files are looked for nowhere. It goes by what is told of the place; or memory was refused (profile)
abbrev pub IsNoPlace : View → ScanFault → Type 0
IsNoPlace view scans.System =
    (standing : Standing) × (looked_for standing (length view.files) ≡ Nowhere scans.System)
IsNoPlace view scans.Memory = Unit {0}
IsNoPlace view other = ⊥

-- this is printed of some findings: bits, one for each piece, and what is told of each file. Both go by the same
-- pieces, each of which lies within the lengths that are told. If the recheck keeps going, some files may be told to be
-- unreadable, and if it follows no link, to be links
pub record IsReportOn (options : RecheckOptions) (view : View) (hashes : Hashes) (text : List ℕ)
    (answer : Answer) : Type 0 where
  pub found : Findings
  pub each : length found.bits ≡ view.piece_count
  pub every : length found.files.items ≡ length view.files
  pub there : AreFoundWithin view found
  pub unreadable : List ℕ
  pub kept : options.keeps_going ≡ false → unreadable ≡ []
  pub links : List ℕ
  pub followed : options.follows_links ≡ true → links ≡ []
  pub report : IsReport options view hashes found.bits
      (with_state Link links (with_state Unreadable unreadable found.files.items)) text answer

-- the bytes are a torrent, and this is printed of it
pub record IsRechecked (options : RecheckOptions) (bytes text : List ℕ) (answer : Answer) : Type 0 where
  pub view : View
  pub hashes : Hashes
  pub torrent : Describes bytes view hashes
  pub allowed : IsHow (Board options.workers)
  pub report : IsReportOn options view hashes text answer

-- a fault of a file that the torrent has; or, exactly where there is no worker or too many, that
abbrev pub IsRecheckFault : ℕ → View → RecheckError Error → Type 0
IsRecheckFault workers view error =
    IsGiven (system_answers (length view.files)) (length view.files) error
    × (IsHow (Board workers) → error ≢ rechecks.Workers) × ((IsHow (Board workers) → ⊥) → error ≡ rechecks.Workers)
    × (error ≢ rechecks.Resources)

-- why the bytes are no torrent whose files are looked for
abbrev pub IsNotPlaced : List ℕ → Fault → Type 0
IsNotPlaced bytes (Refused refusal) = IsNoTorrent bytes (Refused refusal)
IsNotPlaced bytes (Scan fault) = (view : View) × IsTold bytes view × IsNoPlace view fault × (fault ≢ scans.Memory)
IsNotPlaced bytes Resources = Unit {0}
IsNotPlaced bytes other = ⊥

-- why it is not told which of its pieces are there and right, by so many workers
abbrev pub IsNotRechecked : ℕ → List ℕ → Fault → Type 0
IsNotRechecked workers bytes (Recheck error) = (view : View) × IsTold bytes view × IsRecheckFault workers view error
IsNotRechecked workers bytes other = IsNotPlaced bytes other

-- a fault that may stop a recheck that keeps going: it is of no read of a file (profile)
abbrev pub IsPastReads : Fault → Type 0
IsPastReads (Recheck error) = IsNoReadFault error
IsPastReads fault = Unit {0}

-- a torrent was rechecked, with this answer; of the text this holds
abbrev pub RechecksSome : RecheckOptions → Answer → (List ℕ → Type 0) → Type 0
RechecksSome options answer Holds =
    OfSome (λ bytes. (text : List ℕ) × IsRechecked options bytes text answer × Holds text)

-- what is written of a recheck. It is the text, and nothing else (profile)
abbrev pub DoesRecheck : RecheckOptions → Answer → Streams → Type 0
DoesRecheck options answer s = (s.reader' ≡ s.reader) × RechecksSome options answer (Appends s.writer s.writer')

-- if this fault stopped it (profile)
abbrev pub StopsRechecking : RecheckOptions → Streams → Fault → Type 0
StopsRechecking options s (Refused refusal) =
    OfSome (λ bytes. IsNotRechecked options.workers bytes (Refused refusal)) × IsUntouched s
StopsRechecking options s (Scan fault) =
    OfSome (λ bytes. IsNotRechecked options.workers bytes (Scan fault)) × IsUntouched s
StopsRechecking options s (Recheck error) =
    OfSome (λ bytes. IsNotRechecked options.workers bytes (Recheck error))
    × (options.keeps_going ≡ true → IsNoReadFault error) × IsUntouched s
StopsRechecking options s (Read fault) = IsUntouched s
StopsRechecking options s TooLong = IsUntouched s
StopsRechecking options s (Write written) = (s.reader' ≡ s.reader)
    × ((answer : Answer) × RechecksSome options answer (IsFront s.writer s.writer' written))
StopsRechecking options s Resources = IsUntouched s
StopsRechecking options s other = ⊥
