-- What the words of the command line ask for.
use Rattle.std.specs.Prelude.{◌≡◌, ◌⊎◌, ◌≤◌, ℕ, Bool, true, false, List, [], ◌++◌, Option, Some, IsSome, option_map, codes, is_none, None, not}
use Rattle.std.specs.Prelude.{map, string_bytes, unwrap_or}
use Rattle.std.specs.Str.Parse.{IsNumeral, digits_value, without_leading_plus}
use Rattle.clap.specs.Values.{bool_text}
use Rattle.clap.specs.Words.{Row, all_of, first_of, one_of, subcommand_of}
pub use Rattle.tor_report.specs.Words.{word_of}
use Rattle.tor_sums.specs.declared.how.How.{How}
use Rattle.tor_sums.specs.declared.how.How.TheVariants.{One, Halves, Board}
use Rattle.tor_sums.specs.declared.how.TheConstants.{MAX_WORKERS}
use Rattle.tor_meta.specs.PieceLength.{auto_piece_length}
use Rattle.tor_words.specs.CommandLine.{Parsers, tor_app}
use Rattle.tor_cli.specs.declared.check.words.CheckOptions.{CheckOptions}
use Rattle.tor_cli.specs.declared.check.link.MagnetOptions.{MagnetOptions}
use Rattle.tor_cli.specs.declared.command.Request.{Request}
use Rattle.tor_cli.specs.declared.command.Request.TheVariants.{Show, Make, Plan, Lot, Join, Edit, Scan, Check, Magnet}
use Rattle.tor_cli.specs.declared.command.Request.TheVariants.{Extra, Prove, Verify, Recheck, RecheckLot}
use Rattle.tor_cli.specs.declared.fault.Fault.{Fault}
use Rattle.tor_cli.specs.declared.fault.Fault.TheVariants.{Usage, Resources}
use Rattle.tor_cli.specs.declared.recheck.extra_words.ExtraOptions.{ExtraOptions}
use Rattle.tor_cli.specs.declared.recheck.listing.Form.{Form}
use Rattle.tor_cli.specs.declared.recheck.listing.Form.TheVariants.{Brief, Json, Text}
use Rattle.tor_cli.specs.declared.recheck.listing.FileListing.{FileListing}
use Rattle.tor_cli.specs.declared.recheck.listing.FileListing.TheVariants.{Pieces, Files, BadFiles, BadPaths}
use Rattle.tor_cli.specs.declared.make.options.MakeOptions.{MakeOptions}
use Rattle.tor_cli.specs.declared.edit.words.EditOptions.{EditOptions}
use Rattle.tor_cli.specs.declared.lots.join_words.JoinOptions.{JoinOptions}
use Rattle.tor_cli.specs.declared.lots.lot_words.LotOptions.{LotOptions}
use Rattle.tor_cli.specs.declared.lots.plan_options.PlanOptions.{PlanOptions}
use Rattle.tor_cli.specs.lots.PartWord.{IsPartWord}
use Rattle.tor_cli.specs.declared.proof.words.ProveOptions.{ProveOptions}
use Rattle.tor_cli.specs.declared.proof.words.VerifyOptions.{VerifyOptions}
use Rattle.tor_cli.specs.declared.recheck.lot_words.LotRecheckOptions.{LotRecheckOptions}
use Rattle.tor_cli.specs.declared.recheck.words.RecheckOptions.{RecheckOptions}
use Rattle.tor_cli.specs.declared.scan.words.ScanForm.{ScanForm}
use Rattle.tor_cli.specs.declared.scan.words.ScanForm.TheVariants as scans
use Rattle.tor_cli.specs.declared.scan.words.ScanOptions.{ScanOptions}
use Rattle.tor_cli.specs.declared.check.telling.Telling.{Telling}
use Rattle.tor_cli.specs.declared.check.telling.Telling.TheVariants.{Lines, Paths, Record, Roots}
use Rattle.tor_cli.specs.declared.make.piece_length.PieceLength.{PieceLength}
use Rattle.tor_cli.specs.declared.make.piece_length.PieceLength.TheVariants.{Auto, Bytes}
use Rattle.tor_cli.specs.declared.make.way.Way.{Way}
use Rattle.tor_cli.specs.declared.make.way.Way.TheVariants.{Shared, Streams}

-- the word for a way to hash
abbrev pub way_word : Way → List ℕ
way_word (Shared One) = codes "one"
way_word (Shared (Halves workers)) = codes "halves"
way_word (Shared (Board workers)) = codes "board"
way_word (Streams workers) = codes "streams"

-- it has this number of workers; one worker ignores a number
abbrev pub HasWorkers : Way → ℕ → Type 0
HasWorkers (Shared One) number = Unit {0}
HasWorkers (Shared (Halves workers)) number = workers ≡ number
HasWorkers (Shared (Board workers)) number = workers ≡ number
HasWorkers (Streams workers) number = workers ≡ number

-- the workers of an order: behind a stream they are as many as at a board
abbrev pub how_of : Way → How
how_of (Shared how) = how
how_of (Streams workers) = Board workers

-- the text is a number in decimal digits, of which this holds
abbrev pub IsNumber : List ℕ → (ℕ → Type 0) → Type 0
IsNumber text Holds = IsNumeral 10 (without_leading_plus text) × Holds (digits_value 10 (without_leading_plus text))

-- a word asks for this number of workers. It is the number, or `auto`, of which no contract says how many processors
-- there are (profile)
abbrev pub AreWorkers : List ℕ → ℕ → Type 0
AreWorkers text workers =
    IsNumber text (λ number. workers ≡ number) ⊎ ((text ≡ codes "auto") × (1 ≤ workers) × (workers ≤ MAX_WORKERS))

-- the option `--workers` asks for a number of which this holds
abbrev pub IsWorkersIn : List Row → (ℕ → Type 0) → Type 0
IsWorkersIn rows Holds = (text : List ℕ) × (workers : ℕ) × (first_of (codes "workers") rows ≡ Some text)
    × AreWorkers text workers × Holds workers

-- a word asks for this piece length. It is the number of bytes, or `auto` (profile)
abbrev pub IsLengthWord : List ℕ → PieceLength → Type 0
IsLengthWord text (Bytes length) = IsNumber text (λ number. length ≡ number)
IsLengthWord text Auto = text ≡ codes "auto"

-- the option `--piece-length` asks for this
abbrev pub IsLengthIn : List Row → PieceLength → Type 0
IsLengthIn rows length = (text : List ℕ) × (first_of (codes "piece-length") rows ≡ Some text) × IsLengthWord text length

-- the bytes of a piece of contents of so many bytes
abbrev pub length_for : PieceLength → ℕ → ℕ
length_for (Bytes length) size = length
length_for Auto size = auto_piece_length size

-- the flag was given, or not
abbrev pub IsFlag : List Row → List ℕ → Bool → Type 0
IsFlag rows name given = one_of name rows ≡ Some (bool_text given)

-- the words ask for what the torrent is to have, beside its files and who hashes them. They are the values of the
-- options, by their names (profile)
pub record AreTorrentOptionsIn (rows : List Row) (options : MakeOptions) : Type 0 where
  pub kind : first_of (codes "kind") rows ≡ Some (word_of options.kind)
  pub name : first_of (codes "name") rows ≡ Some options.name.now
  pub piece_length : IsLengthIn rows options.piece_length
  pub has_files : options.piece_length ≡ Auto → IsSome (first_of (codes "path") rows)
  pub announce : first_of (codes "announce") rows ≡ option_map (λ url. url.now) options.announce
  pub is_private : one_of (codes "private") rows ≡ Some (codes "true") → options.is_private ≡ true
  pub is_public : one_of (codes "private") rows ≡ Some (codes "false") → options.is_private ≡ false
  pub tail : (given : Bool) → IsFlag rows (codes "tail") given → options.tail ≡ given
  pub span : (text : List ℕ) → one_of (codes "span") rows ≡ Some text → IsNumber text (λ number. options.span ≡ number)
  pub out : first_of (codes "out") rows ≡ option_map (λ place. place.now) options.out
  pub attrs : first_of (codes "attrs") rows ≡ option_map (λ place. place.now) options.attrs
  pub list : first_of (codes "files-from") rows ≡ option_map (λ word. word.now) options.list

-- the words ask for these options of `make` (profile)
pub record AreOptionsIn (rows : List Row) (options : MakeOptions) : Type 0 where
  pub torrent : AreTorrentOptionsIn rows options
  pub way : first_of (codes "how") rows ≡ Some (way_word options.way)
  pub workers : IsWorkersIn rows (HasWorkers options.way)
  pub check_after : (given : Bool) → IsFlag rows (codes "check-after") given → options.check_after ≡ given
  pub place : first_of (codes "path") rows ≡ option_map (λ place. place.now) options.place
  pub whole : first_of (codes "plan") rows ≡ None

-- they ask for the plan of what stands at this place (profile)
pub record IsPlanIn (options : PlanOptions) (rows : List Row) : Type 0 where
  pub torrent : AreTorrentOptionsIn rows options.torrent
  pub place : first_of (codes "path") rows ≡ Some options.place.now

-- they ask for this lot of this plan, hashed so, of what stands at this place (profile)
pub record IsLotIn (options : LotOptions) (rows : List Row) : Type 0 where
  pub plan : first_of (codes "plan") rows ≡ Some options.plan.now
  pub lot : (text : List ℕ) × (first_of (codes "part") rows ≡ Some text)
      × IsPartWord text options.lot.number options.lot.lots
  pub way : first_of (codes "how") rows ≡ Some (way_word (Shared options.how))
  pub workers : IsWorkersIn rows (HasWorkers (Shared options.how))
  pub out : first_of (codes "out") rows ≡ option_map (λ place. place.now) options.out
  pub place : first_of (codes "path") rows ≡ Some options.place.now

-- they ask for the torrent of this plan and these parts (profile)
pub record IsJoinIn (options : JoinOptions) (rows : List Row) : Type 0 where
  pub plan : first_of (codes "plan") rows ≡ Some options.plan.now
  pub parts : unwrap_or (all_of (codes "part") rows) [] ≡ map (λ part. part.now) options.parts.items
  pub out : first_of (codes "out") rows ≡ option_map (λ place. place.now) options.out

-- they ask for this torrent with this tracker, or with none (profile)
pub record IsEditIn (options : EditOptions) (rows : List Row) : Type 0 where
  pub torrent : first_of (codes "file") rows ≡ Some options.torrent.now
  pub tracker : first_of (codes "announce") rows ≡ option_map (λ url. url.now) options.tracker
  pub none : (given : Bool) → IsFlag rows (codes "no-announce") given → given ≡ is_none options.tracker
  pub out : first_of (codes "out") rows ≡ option_map (λ place. place.now) options.out

-- what is printed of a place, where `--null` and `--json` are each given or not
abbrev pub scan_form_of : Bool → Bool → ScanForm
scan_form_of null true = scans.Record
scan_form_of true false = scans.Paths
scan_form_of false false = scans.Lines

-- they ask for what stands at this place, of which a list may choose the files (profile)
pub record IsScanIn (options : ScanOptions) (rows : List Row) : Type 0 where
  pub place : first_of (codes "path") rows ≡ Some options.place.now
  pub list : first_of (codes "files-from") rows ≡ option_map (λ word. word.now) options.list
  pub form : (null json : Bool) → IsFlag rows (codes "null") null → IsFlag rows (codes "json") json
      → options.form ≡ scan_form_of null json

-- what is told of a torrent, where `--roots`, `--null` and `--json` are each given or not
abbrev pub telling_of : Bool → Bool → Bool → Telling
telling_of true null json = Roots
telling_of false null true = Record
telling_of false true false = Paths
telling_of false false false = Lines

-- the torrent that is judged, and what is told of it
pub record IsCheckIn (options : CheckOptions) (rows : List Row) : Type 0 where
  pub torrent : first_of (codes "file") rows ≡ Some options.torrent.now
  pub telling : (roots null json : Bool) → IsFlag rows (codes "roots") roots → IsFlag rows (codes "null") null
      → IsFlag rows (codes "json") json → options.telling ≡ telling_of roots null json

-- they ask for the link of this torrent, with these words in it (profile)
pub record IsMagnetIn (options : MagnetOptions) (rows : List Row) : Type 0 where
  pub torrent : first_of (codes "file") rows ≡ Some options.torrent.now
  pub name : (given : Bool) → IsFlag rows (codes "name") given → options.words.name ≡ given
  pub tracker : (given : Bool) → IsFlag rows (codes "trackers") given → options.words.tracker ≡ given

-- they ask for a proof of this piece (profile)
pub record IsPieceIn (options : ProveOptions) (rows : List Row) : Type 0 where
  pub torrent : first_of (codes "file") rows ≡ Some options.torrent.now
  pub file : (text : List ℕ) → one_of (codes "file-number") rows ≡ Some text
      → IsNumber text (λ number. options.file ≡ number)
  pub index : (text : List ℕ) → one_of (codes "index") rows ≡ Some text
      → IsNumber text (λ number. options.index ≡ number)

-- they ask for an answer to this proof. They are the words that it is judged by (profile)
pub record IsProofIn (options : VerifyOptions) (rows : List Row) : Type 0 where
  pub root : first_of (codes "root") rows ≡ Some options.root.now
  pub length : first_of (codes "length") rows ≡ Some options.length.now
  pub piece_length : first_of (codes "piece-length") rows ≡ Some options.piece_length.now
  pub proof : first_of (codes "proof") rows ≡ Some options.proof.now
  pub bytes : first_of (codes "bytes") rows ≡ option_map (λ place. place.now) options.bytes

-- which files are listed, where `--files`, `--bad` and `--null` are each given or not
abbrev pub listing_of : Bool → Bool → Bool → FileListing
listing_of files true true = BadPaths
listing_of files true false = BadFiles
listing_of true false null = Files
listing_of false false null = Pieces

-- for whom a recheck answers, where `--brief` and `--json` are each given or not
abbrev pub form_of : Bool → Bool → Form
form_of brief true = Json
form_of true false = Brief
form_of false false = Text

-- the torrent that is rechecked, where its files are looked for, which are listed, in which form, and by how many
-- workers
pub record IsRecheckIn (options : RecheckOptions) (rows : List Row) : Type 0 where
  pub torrent : first_of (codes "file") rows ≡ Some options.torrent.now
  pub place : first_of (codes "path") rows ≡ Some options.place.now
  pub listing : (files bad null : Bool) → IsFlag rows (codes "files") files → IsFlag rows (codes "bad") bad
      → IsFlag rows (codes "null") null → options.listing ≡ listing_of files bad null
  pub form : (brief json : Bool) → IsFlag rows (codes "brief") brief → IsFlag rows (codes "json") json
      → options.form ≡ form_of brief json
  pub workers : IsWorkersIn rows (λ workers. options.workers ≡ workers)
  pub keeps_going : (given : Bool) → IsFlag rows (codes "keep-going") given → options.keeps_going ≡ given
  pub follows_links : (given : Bool) → IsFlag rows (codes "no-links") given → options.follows_links ≡ not given
  pub whole : first_of (codes "part") rows ≡ None
  pub pieces : (given : Bool) → IsFlag rows (codes "extra") given → given ≡ false
  pub null : (bad null : Bool) → IsFlag rows (codes "bad") bad → IsFlag rows (codes "null") null → null ≡ true
      → bad ≡ true

-- they ask for the files below this folder that this torrent does not have, in this form (profile)
pub record IsExtraIn (options : ExtraOptions) (rows : List Row) : Type 0 where
  pub torrent : first_of (codes "file") rows ≡ Some options.torrent.now
  pub place : first_of (codes "path") rows ≡ Some options.place.now
  pub form : (null json : Bool) → IsFlag rows (codes "null") null → IsFlag rows (codes "json") json
      → options.form ≡ scan_form_of null json
  pub whole : first_of (codes "part") rows ≡ None
  pub extra : (given : Bool) → IsFlag rows (codes "extra") given → given ≡ true

-- they ask for the pieces of this lot of this torrent alone (profile)
pub record IsLotRecheckIn (options : LotRecheckOptions) (rows : List Row) : Type 0 where
  pub torrent : first_of (codes "file") rows ≡ Some options.torrent.now
  pub place : first_of (codes "path") rows ≡ Some options.place.now
  pub lot : (text : List ℕ) × (first_of (codes "part") rows ≡ Some text)
      × IsPartWord text options.lot.number options.lot.lots
  pub form : (brief json : Bool) → IsFlag rows (codes "brief") brief → IsFlag rows (codes "json") json
      → options.form ≡ form_of brief json
  pub workers : IsWorkersIn rows (λ workers. options.workers ≡ workers)
  pub follows_links : (given : Bool) → IsFlag rows (codes "no-links") given → options.follows_links ≡ not given
  pub null : (given : Bool) → IsFlag rows (codes "null") given → given ≡ false

-- this command was found, with rows of which this holds
abbrev pub HasRows : Option (List ℕ × List Row) → List ℕ → (List Row → Type 0) → Type 0
HasRows found command Holds = (rows : List Row) × (found ≡ Some (command, rows)) × Holds rows

-- the words have this command, with rows of which this holds
abbrev pub HasCommand : List (List ℕ) → List ℕ → (List Row → Type 0) → Type 0
HasCommand words command Holds = (parsers : Parsers) × HasRows (subcommand_of (tor_app parsers) words) command Holds

-- the words ask for this. Of a text to be shown nothing is said (profile)
abbrev pub Asks : List (List ℕ) → Request → Type 0
Asks words (Show text) = Unit {0}
Asks words (Make options) = HasCommand words (codes "make") (λ rows. AreOptionsIn rows options)
Asks words (Plan options) = HasCommand words (codes "plan") (IsPlanIn options)
Asks words (Lot options) = HasCommand words (codes "make") (IsLotIn options)
Asks words (Join options) = HasCommand words (codes "join") (IsJoinIn options)
Asks words (Edit options) = HasCommand words (codes "edit") (IsEditIn options)
Asks words (Scan options) = HasCommand words (codes "scan") (IsScanIn options)
Asks words (Check options) = HasCommand words (codes "check") (IsCheckIn options)
Asks words (Magnet options) = HasCommand words (codes "magnet") (IsMagnetIn options)
Asks words (Prove options) = HasCommand words (codes "prove") (IsPieceIn options)
Asks words (Verify options) = HasCommand words (codes "verify") (IsProofIn options)
Asks words (Recheck options) = HasCommand words (codes "recheck") (IsRecheckIn options)
Asks words (RecheckLot options) = HasCommand words (codes "recheck") (IsLotRecheckIn options)
Asks words (Extra options) = HasCommand words (codes "recheck") (IsExtraIn options)

-- a fault of usage, whose line ends in where the help of this command is
abbrev pub IsUsage : List ℕ → Fault → Type 0
IsUsage command (Usage line) =
    (cause : List ℕ) × (string_bytes line ≡ cause ++ (codes "; see '" ++ (command ++ codes " --help'")))
IsUsage command other = ⊥

-- a fault of the words, or want of memory
abbrev pub IsOfWords : Fault → Type 0
IsOfWords (Usage line) = Unit {0}
IsOfWords Resources = Unit {0}
IsOfWords other = ⊥
