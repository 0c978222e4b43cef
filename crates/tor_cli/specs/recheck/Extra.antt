-- What the program prints of the files below a folder that a torrent does not have. No contract says what stands there,
-- so a clause speaks of some paths: those that the program met.
use Rattle.std.specs.Prelude.{◌≡◌, ◌==◌, ℕ, List, [], ◌∷◌, ◌++◌, Vec, codes, flat_map, length, map, vec_items}
use Rattle.std.specs.List.Sorted.{IsPermutation, IsSorted}
use Rattle.std.specs.Io.KnownBytes.{Appends}
use Rattle.std.specs.declared.alloc.Global.{Global}
use Rattle.serde_json.specs.Data.{Data, Members, array, member, no_members, object, string}
use Rattle.serde_json.specs.View.{items_of}
use Rattle.tor_check.specs.Valid.{IsTold}
use Rattle.tor_spec.specs.Output.{IsFront}
use Rattle.tor_report.specs.Escape.{escaped_bytes, printable}
use Rattle.tor_report.specs.Records.{record_line}
use Rattle.tor_source.specs.Extra.{extra_paths}
use Rattle.tor_source.specs.declared.faults.ScanFault.TheVariants.{System}
use Rattle.tor_spec.specs.valid.View.{View}
use Rattle.tor_tree.specs.Path.{name_cmp}
use Rattle.tor_cli.specs.Foreign.{IsNoTorrent, OfSome}
use Rattle.tor_cli.specs.Streams.{IsUntouched, Streams}
use Rattle.tor_cli.specs.proof.Proving.{answer_of}
use Rattle.tor_cli.specs.declared.answer.Answer.{Answer}
use Rattle.tor_cli.specs.declared.fault.Fault.{Fault}
use Rattle.tor_cli.specs.declared.fault.Fault.TheVariants.{Read, Refused, Resources, Scan, TooLong, Write}
use Rattle.tor_cli.specs.declared.recheck.extra_words.ExtraOptions.{ExtraOptions}
use Rattle.tor_cli.specs.declared.scan.words.ScanForm.{ScanForm}
use Rattle.tor_cli.specs.declared.scan.words.ScanForm.TheVariants.{Lines, Paths, Record}

-- these are the paths of some files that were met, which can be taken, and of what no torrent can have for its name,
-- but for those of the torrent's files and for those below `.pad`. They are in the order of their bytes (BEP 47,
-- "padding files"; profile)
pub record AreExtra (view : View) (extra : List (Vec ℕ Global)) : Type 0 where
  pub taken : List (List (List ℕ))
  pub unnameable : List (List ℕ)
  pub all : IsPermutation (extra_paths taken unnameable (map (λ told. told.file.path) view.files))
      (map vec_items extra)
  pub rising : IsSorted (λ path next. name_cmp path.items next.items) extra

-- the line of a path
abbrev pub extra_line : Vec ℕ Global → List ℕ
extra_line path = escaped_bytes path.items ++ codes "\n"

abbrev pub extra_lines : List (Vec ℕ Global) → List ℕ
extra_lines extra = flat_map extra_line extra

-- a path as it is, ended by a zero byte
abbrev pub ended_path : Vec ℕ Global → List ℕ
ended_path path = path.items ++ 0 ∷ []

abbrev pub ended_paths : List (Vec ℕ Global) → List ℕ
ended_paths extra = flat_map ended_path extra

-- a path as text
abbrev pub extra_data : Vec ℕ Global → Data
extra_data path = string (printable path.items)

-- the member of the object that `recheck --extra` prints (profile)
abbrev pub extra_members : List (Vec ℕ Global) → Members
extra_members extra = member (codes "extra") (array (items_of (map extra_data extra))) no_members

abbrev pub extra_record : List (Vec ℕ Global) → List ℕ
extra_record extra = record_line (object (extra_members extra))

-- what is printed of these paths in each form (profile)
abbrev pub extra_text : ScanForm → List (Vec ℕ Global) → List ℕ
extra_text Lines extra = extra_lines extra
extra_text Paths extra = ended_paths extra
extra_text Record extra = extra_record extra

-- the bytes are a torrent, and this is printed of files that it does not have. The answer is yes if there is none
-- (profile)
pub record IsExtraTold (options : ExtraOptions) (bytes text : List ℕ) (answer : Answer) : Type 0 where
  pub view : View
  pub torrent : IsTold bytes view
  pub extra : List (Vec ℕ Global)
  pub are : AreExtra view extra
  pub printed : text ≡ extra_text options.form extra
  pub answered : answer ≡ answer_of (length extra == 0)

-- why nothing is told: the bytes are no torrent, or the system does not list the place
abbrev pub IsNoExtra : List ℕ → Fault → Type 0
IsNoExtra bytes (Refused refusal) = IsNoTorrent bytes (Refused refusal)
IsNoExtra bytes (Scan System) = (view : View) × IsTold bytes view
IsNoExtra bytes Resources = Unit {0}
IsNoExtra bytes other = ⊥

-- it was told of some bytes, with this answer; of the text this holds
abbrev pub TellsExtra : ExtraOptions → Answer → (List ℕ → Type 0) → Type 0
TellsExtra options answer Holds =
    OfSome (λ bytes. (text : List ℕ) × IsExtraTold options bytes text answer × Holds text)

-- what is written of it: the text, and nothing else (profile)
abbrev pub DoesExtra : ExtraOptions → Answer → Streams → Type 0
DoesExtra options answer s = (s.reader' ≡ s.reader) × TellsExtra options answer (Appends s.writer s.writer')

-- if this fault stopped it (profile)
abbrev pub StopsExtra : ExtraOptions → Streams → Fault → Type 0
StopsExtra options s (Refused refusal) = OfSome (λ bytes. IsNoExtra bytes (Refused refusal)) × IsUntouched s
StopsExtra options s (Scan fault) = OfSome (λ bytes. IsNoExtra bytes (Scan fault)) × IsUntouched s
StopsExtra options s (Read fault) = IsUntouched s
StopsExtra options s TooLong = IsUntouched s
StopsExtra options s (Write written) = (s.reader' ≡ s.reader)
    × ((answer : Answer) × TellsExtra options answer (IsFront s.writer s.writer' written))
StopsExtra options s Resources = IsUntouched s
StopsExtra options s _ = ⊥
