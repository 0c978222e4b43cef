-- What the program prints of the pieces of one lot of a torrent, of which many machines look for one each. No contract
-- says which bytes a file of the system has, so a clause speaks of some bytes, those that the program took for FILE's,
-- and of some bits, those that were answered of the lot's pieces.
use Rattle.std.specs.Prelude.{◌≡◌, ◌+◌, ◌-◌, ℕ, Bool, List, length, codes}
use Rattle.std.specs.Io.KnownBytes.{Appends}
use Rattle.hex.specs.Hex.{encode_lower}
use Rattle.serde_json.specs.Data.{Members, member, no_members, object, string}
use Rattle.tor_check.specs.Valid.{IsTold}
use Rattle.tor_spec.specs.Output.{IsFront}
use Rattle.tor_view.specs.Bitfield.{bitfield, set_count}
use Rattle.tor_recheck.specs.Lots.{IsOfLot, first_of_lot}
use Rattle.tor_report.specs.Records.{count_data, record_line}
use Rattle.tor_spec.specs.valid.View.{View}
use Rattle.tor_sums.specs.How.{IsHow}
use Rattle.tor_sums.specs.declared.how.How.TheVariants.{Board}
use Rattle.tor_cli.specs.Foreign.{OfSome}
use Rattle.tor_cli.specs.Streams.{IsUntouched, Streams}
use Rattle.tor_cli.specs.recheck.Recheck.{IsNotRechecked, counts_text, recheck_answer, recheck_text}
use Rattle.tor_cli.specs.declared.answer.Answer.{Answer}
use Rattle.tor_cli.specs.declared.fault.Fault.{Fault}
use Rattle.tor_cli.specs.declared.fault.Fault.TheVariants.{Read, Recheck, Refused, Resources, Scan, TooLong, Write}
use Rattle.tor_cli.specs.declared.lots.lot_number.LotNumber.{LotNumber}
use Rattle.tor_cli.specs.declared.recheck.listing.Form.{Form}
use Rattle.tor_cli.specs.declared.recheck.listing.Form.TheVariants.{Brief, Json, Text}
use Rattle.tor_cli.specs.declared.recheck.lot_words.LotRecheckOptions.{LotRecheckOptions}

-- the members of the object that `recheck --part` prints: the lot's pieces are those from one on, and before another
-- (profile)
abbrev pub lot_members : ℕ → List Bool → Members
lot_members from bits =
    member (codes "bits") (string (encode_lower (bitfield bits)))
    (member (codes "from") (count_data from)
    (member (codes "good") (count_data (set_count bits))
    (member (codes "pieces") (count_data (length bits))
    (member (codes "to") (count_data (from + length bits)) no_members))))

-- what is printed of the bits of a lot whose first piece this is
abbrev pub lot_text : Form → ℕ → List Bool → List ℕ
lot_text Text from bits = recheck_text bits
lot_text Brief from bits = counts_text bits
lot_text Json from bits = record_line (object (lot_members from bits))

-- the first piece of the lot, and the first after it
abbrev pub first_piece : LotNumber → View → ℕ
first_piece lot view = first_of_lot view.piece_count lot.lots lot.number

abbrev pub first_after : LotNumber → View → ℕ
first_after lot view = first_of_lot view.piece_count lot.lots (lot.number + 1)

-- the bytes are a torrent, and this is printed of the pieces of the lot: it has as many bits as these are (profile)
pub record IsLotRechecked (options : LotRecheckOptions) (bytes text : List ℕ) (answer : Answer) : Type 0 where
  pub view : View
  pub torrent : IsTold bytes view
  pub allowed : IsHow (Board options.workers)
  pub bits : List Bool
  pub counted : length bits ≡ first_after options.lot view - first_piece options.lot view
  pub printed : text ≡ lot_text options.form (first_piece options.lot view) bits
  pub answered : answer ≡ recheck_answer bits

-- a fault of the lot's recheck names no file but those that have bytes in its pieces (profile)
abbrev pub IsFaultOfLot : LotNumber → List ℕ → Fault → Type 0
IsFaultOfLot lot bytes (Recheck error) = (view : View) × IsTold bytes view × IsOfLot view lot.lots lot.number error
IsFaultOfLot lot bytes fault = Unit {0}

-- the lot of a torrent was rechecked, with this answer; of the text this holds
abbrev pub RechecksLot : LotRecheckOptions → Answer → (List ℕ → Type 0) → Type 0
RechecksLot options answer Holds =
    OfSome (λ bytes. (text : List ℕ) × IsLotRechecked options bytes text answer × Holds text)

-- what is written of it: the text, and nothing else (profile)
abbrev pub DoesLotRecheck : LotRecheckOptions → Answer → Streams → Type 0
DoesLotRecheck options answer s = (s.reader' ≡ s.reader) × RechecksLot options answer (Appends s.writer s.writer')

-- if this fault stopped it (profile)
abbrev pub StopsLotRecheck : LotRecheckOptions → Streams → Fault → Type 0
StopsLotRecheck options s (Refused refusal) =
    OfSome (λ bytes. IsNotRechecked options.workers bytes (Refused refusal)) × IsUntouched s
StopsLotRecheck options s (Scan fault) =
    OfSome (λ bytes. IsNotRechecked options.workers bytes (Scan fault)) × IsUntouched s
StopsLotRecheck options s (Recheck error) =
    OfSome (λ bytes. IsNotRechecked options.workers bytes (Recheck error)
    × IsFaultOfLot options.lot bytes (Recheck error)) × IsUntouched s
StopsLotRecheck options s (Read fault) = IsUntouched s
StopsLotRecheck options s TooLong = IsUntouched s
StopsLotRecheck options s (Write written) = (s.reader' ≡ s.reader)
    × ((answer : Answer) × RechecksLot options answer (IsFront s.writer s.writer' written))
StopsLotRecheck options s Resources = IsUntouched s
StopsLotRecheck options s _ = ⊥
