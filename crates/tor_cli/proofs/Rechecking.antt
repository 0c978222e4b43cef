-- Which fault of the program a fault of a recheck is.
use Rattle.std.proofs.Common.{◌≡◌, ◌≢◌, ◌⊎◌, ◌∙◌, ◌==◌, ◌≤◌, ℕ, Bool, true, false, cond, List, length, map}
use Rattle.std.specs.Prelude.{Result, Ok, Err, OnOk, nat_le}
use Rattle.std.proofs.Common.{ap, inl, inr, refl, subst, sym}
use Rattle.std.proofs.lemmas.Bool.{eqb-true, le-leb, leb-true}
use Rattle.std.proofs.lemmas.List.{length-map}
use Rattle.std.specs.declared.io.Error.{Error}
use Rattle.tor_check.specs.Valid.{IsTold}
use Rattle.tor_spec.specs.declared.hashes.Hashes.{Hashes}
use Rattle.tor_report.specs.Told.{Describes}
use Rattle.tor_sums.specs.How.{IsHow}
use Rattle.tor_sums.specs.declared.how.How.{How}
use Rattle.tor_sums.specs.declared.how.How.TheVariants.{Board}
use Rattle.tor_sums.specs.declared.how.TheConstants.{MAX_WORKERS}
use Rattle.tor_recheck.specs.Recheck.{IsGiven}
use Rattle.tor_recheck.specs.declared.errors.RecheckError.{RecheckError}
use Rattle.tor_recheck.specs.declared.errors.RecheckError.TheVariants as rechecks
use Rattle.tor_source.specs.Places.{place_of}
use Rattle.tor_source.specs.declared.faults.ScanFault.{ScanFault}
use Rattle.tor_source.specs.declared.faults.ScanFault.TheVariants as scans
use Rattle.tor_spec.specs.valid.View.{View}
use Rattle.tor_cli.specs.Foreign.{IsNoTorrent}
use Rattle.tor_source.specs.Answers.{system_answers}
use Rattle.tor_recheck.specs.Lots.{IsOfLot}
use Rattle.tor_recheck.specs.Readable.{IsNoReadFault}
use Rattle.tor_source.specs.declared.input.TheConstants.{MAX_INPUT_LENGTH}
use Rattle.tor_cli.specs.Streams.{IsUntouched, Streams}
use Rattle.tor_cli.specs.recheck.Extra.{IsNoExtra, StopsExtra}
use Rattle.tor_cli.specs.recheck.LotRecheck.{IsFaultOfLot, StopsLotRecheck}
use Rattle.tor_cli.specs.declared.recheck.extra_words.ExtraOptions.{ExtraOptions}
use Rattle.tor_cli.specs.declared.recheck.lot_words.LotRecheckOptions.{LotRecheckOptions}
use Rattle.tor_cli.specs.declared.recheck.words.RecheckOptions.{RecheckOptions}
use Rattle.tor_cli.specs.declared.lots.lot_number.LotNumber.{LotNumber}
use Rattle.tor_cli.specs.recheck.Recheck.{IsPastReads, IsNoPlace, IsNotPlaced, IsNotRechecked, StopsRechecking}
use Rattle.tor_cli.specs.Status.{of_recheck_error, of_scan_fault}
use Rattle.tor_cli.specs.recheck.Whereabouts.{looked_for}
use Rattle.tor_cli.specs.steps.Places.{ArePlaced, ArePlaces}
use Rattle.tor_cli.specs.declared.recheck.whereabouts.Standing.{Standing}
use Rattle.tor_cli.specs.declared.recheck.whereabouts.Standing.TheVariants.{File, NoFile, Nothing, NotTold, NoMemory}
use Rattle.tor_cli.specs.declared.recheck.whereabouts.Whereabouts.{Whereabouts}
use Rattle.tor_cli.specs.declared.recheck.whereabouts.Whereabouts.TheVariants.{Itself, Below, Nowhere}
use Rattle.tor_cli.specs.declared.fault.Fault.{Fault}
use Rattle.tor_cli.specs.declared.fault.Fault.TheVariants as faults

-- a fault that is told of a place is want of memory or the system's
abbrev IsOfPlace : ScanFault → Type 0
IsOfPlace scans.System = Unit {0}
IsOfPlace scans.Memory = Unit {0}
IsOfPlace other = ⊥

abbrev IsOfPlaceIn : Whereabouts → Type 0
IsOfPlaceIn Itself = Unit {0}
IsOfPlaceIn Below = Unit {0}
IsOfPlaceIn (Nowhere fault) = IsOfPlace fault

at_itself : (one : Bool) → IsOfPlaceIn (cond one Itself (Nowhere scans.System))
at_itself true = tt
at_itself false = tt

is_of_place : (standing : Standing) (files : ℕ) → IsOfPlaceIn (looked_for standing files)
is_of_place File files = at_itself (files == 1)
is_of_place NoFile files = tt
is_of_place Nothing files = tt
is_of_place NotTold files = tt
is_of_place NoMemory files = tt

module _ (view : View) (standing : Standing) where
  nowhere : (fault : ScanFault) → looked_for standing (length view.files) ≡ Nowhere fault → IsOfPlace fault
      → IsNoPlace view fault
  nowhere scans.NotUtf8 told is = absurd is
  nowhere scans.NotRegular told is = absurd is
  nowhere scans.TooDeep told is = absurd is
  nowhere scans.System told is = (standing, told)
  nowhere scans.Memory told is = tt

  pub no_place : (fault : ScanFault)
      → (looked_for standing (length view.files) ≡ Nowhere fault) ⊎ (fault ≡ scans.Memory) → IsNoPlace view fault
  no_place fault (inl told) =
      nowhere fault told (subst IsOfPlaceIn told (is_of_place standing (length view.files)))
  no_place fault (inr memory) = subst (IsNoPlace view) (sym memory) tt

module _ (bytes : List ℕ) (view : View) (told : IsTold bytes view) where
  -- the place is refused, or memory was
  pub not_placed : (fault : ScanFault) → IsNoPlace view fault → IsNotPlaced bytes (of_scan_fault fault)
  not_placed scans.NotUtf8 why = absurd why
  not_placed scans.NotRegular why = absurd why
  not_placed scans.TooDeep why = absurd why
  not_placed scans.System why = (view, told, why, λ same. cc)
  not_placed scans.Memory why = tt

  -- a file of the torrent had a fault, or memory was refused
  pub not_rechecked : (workers : ℕ) (error : RecheckError Error)
      → IsGiven (system_answers (length view.files)) (length view.files) error
      → (IsHow (Board workers) → error ≢ rechecks.Workers) → ((IsHow (Board workers) → ⊥) → error ≡ rechecks.Workers)
      → IsNotRechecked workers bytes (of_recheck_error error)
  not_rechecked workers (rechecks.Read file start fault) given other only =
      (view, told, (given, other, only, λ same. cc))
  not_rechecked workers (rechecks.Changed file) given other only = (view, told, (given, other, only, λ same. cc))
  not_rechecked workers rechecks.Resources given other only = tt
  not_rechecked workers rechecks.Workers given other only = (view, told, (given, other, only, λ same. cc))

-- a refusal is answered as it is, and want of memory is none
pub not_judged : (bytes : List ℕ) (fault : Fault) → IsNoTorrent bytes fault → IsNotPlaced bytes fault
not_judged bytes (faults.Usage line) why = absurd why
not_judged bytes (faults.Name fault) why = absurd why
not_judged bytes (faults.Scan fault) why = absurd why
not_judged bytes (faults.Make error) why = absurd why
not_judged bytes (faults.Refused refusal) why = why
not_judged bytes (faults.Piece error) why = absurd why
not_judged bytes (faults.Recheck error) why = absurd why
not_judged bytes (faults.Plan error) why = absurd why
not_judged bytes (faults.Join error part) why = absurd why
not_judged bytes (faults.NotAsMade good pieces) why = absurd why
not_judged bytes faults.OutAmongFiles why = absurd why
not_judged bytes (faults.Argument fault) why = absurd why
not_judged bytes (faults.Read fault) why = absurd why
not_judged bytes faults.TooLong why = absurd why
not_judged bytes (faults.Write written) why = absurd why
not_judged bytes faults.Resources why = tt

-- what is not placed is not rechecked
pub unplaced : (workers : ℕ) (bytes : List ℕ) (fault : Fault) → IsNotPlaced bytes fault
    → IsNotRechecked workers bytes fault
unplaced workers bytes (faults.Usage line) why = why
unplaced workers bytes (faults.Name fault) why = why
unplaced workers bytes (faults.Scan fault) why = why
unplaced workers bytes (faults.Make error) why = why
unplaced workers bytes (faults.Refused refusal) why = why
unplaced workers bytes (faults.Piece error) why = why
unplaced workers bytes (faults.Recheck error) why = absurd why
unplaced workers bytes (faults.Plan error) why = why
unplaced workers bytes (faults.Join error part) why = why
unplaced workers bytes (faults.NotAsMade good pieces) why = why
unplaced workers bytes faults.OutAmongFiles why = why
unplaced workers bytes (faults.Argument fault) why = why
unplaced workers bytes (faults.Read fault) why = why
unplaced workers bytes faults.TooLong why = why
unplaced workers bytes (faults.Write written) why = why
unplaced workers bytes faults.Resources why = why

-- one of the numbers of workers that there may be, or not
allowed_or_not : (workers : ℕ) (one few : Bool) → nat_le 1 workers ≡ one → nat_le workers MAX_WORKERS ≡ few
    → IsHow (Board workers) ⊎ (IsHow (Board workers) → ⊥)
allowed_or_not workers true true one few = inl (leb-true 1 workers one, leb-true workers MAX_WORKERS few)
allowed_or_not workers true false one few =
    inr (λ is. let bad : true ≡ false = sym (le-leb workers MAX_WORKERS is.1) ∙ few in cc)
allowed_or_not workers false true one few =
    inr (λ is. let bad : true ≡ false = sym (le-leb 1 workers is.0) ∙ one in cc)
allowed_or_not workers false false one few =
    inr (λ is. let bad : true ≡ false = sym (le-leb 1 workers is.0) ∙ one in cc)

-- what is answered by so many workers, who are refused where there may not be so many
pub workers_allowed : {A F : Type 0} (workers : ℕ) (how : How) (result : Result A (RecheckError F))
    → how ≡ Board workers → ((IsHow how → ⊥) → result ≡ Err rechecks.Workers)
    → OnOk result (IsHow (Board workers))
workers_allowed workers how (Err error) same refused = tt
workers_allowed workers how (Ok told) same refused = elim (allowed_or_not workers _ _ refl refl) [
  | inl is ↦ is
  | inr none ↦ let bad = refused (subst (λ (h : How). IsHow h → ⊥) (sym same) none) in absurd cc
]

-- the error that is answered is the one that there is
pub err_is : {A E : Type 0} (error other : E) (result : Result A E) → result ≡ Err error → result ≡ Err other
    → error ≡ other
err_is error other result is same = cc

module _ (place : List ℕ) (view : View) (places : List (List ℕ)) where
  each_below : places ≡ map (place_of place) (map (λ told. told.file.path) view.files)
      → length places ≡ length view.files
  each_below is =
      ap length is
      ∙ length-map (map (λ told. told.file.path) view.files) (place_of place)
      ∙ length-map view.files (λ told. told.file.path)

  one_itself : (one : Bool) → (length view.files == 1) ≡ one
      → ArePlaces (cond one Itself (Nowhere scans.System)) place view.files places
      → length places ≡ length view.files
  one_itself true one is = ap length is ∙ sym (eqb-true (length view.files) 1 one)
  one_itself false one is = absurd is

  -- there are as many places as the torrent has files
  pub places_count : ArePlaced place view places → length places ≡ length view.files
  places_count (File, is) = one_itself (length view.files == 1) refl is
  places_count (NoFile, is) = each_below is
  places_count (Nothing, is) = each_below is
  places_count (NotTold, is) = each_below is
  places_count (NoMemory, is) = absurd is

-- what bytes describe is told of them
pub told_of : {bytes : List ℕ} {view : View} {hashes : Hashes} → Describes bytes view hashes → IsTold bytes view
told_of (root, same, with) = (root, with.torrent, same)

-- a fault of a recheck that keeps going is told as it is
pub past_reads : (error : RecheckError Error) → IsNoReadFault error → IsPastReads (of_recheck_error error)
past_reads (rechecks.Read file start fault) past = past
past_reads (rechecks.Changed file) past = past
past_reads rechecks.Resources past = tt
past_reads rechecks.Workers past = past

-- one of the place is of no read
pub unplaced_past : (bytes : List ℕ) (fault : Fault) → IsNotPlaced bytes fault → IsPastReads fault
unplaced_past bytes (faults.Recheck error) why = absurd why
unplaced_past bytes fault why = tt

-- a fault of a lot's file is told as it is
pub fault_of_lot : (lot : LotNumber) (bytes : List ℕ) (view : View) → IsTold bytes view → (error : RecheckError Error)
    → IsOfLot view lot.lots lot.number error → IsFaultOfLot lot bytes (of_recheck_error error)
fault_of_lot lot bytes view told (rechecks.Read file start fault) of_lot = (view, told, of_lot)
fault_of_lot lot bytes view told (rechecks.Changed file) of_lot = (view, told, of_lot)
fault_of_lot lot bytes view told rechecks.Resources of_lot = tt
fault_of_lot lot bytes view told rechecks.Workers of_lot = (view, told, of_lot)

pub unplaced_of_lot : (lot : LotNumber) (bytes : List ℕ) (fault : Fault) → IsNotPlaced bytes fault
    → IsFaultOfLot lot bytes fault
unplaced_of_lot lot bytes (faults.Recheck error) why = absurd why
unplaced_of_lot lot bytes fault why = tt

-- the system does not list a place
pub no_extra : (bytes : List ℕ) (view : View) → IsTold bytes view → (fault : ScanFault)
    → (fault ≡ scans.Memory) ⊎ (fault ≡ scans.System) → IsNoExtra bytes (of_scan_fault fault)
no_extra bytes view told fault (inl memory) = rw memory tt
no_extra bytes view told fault (inr system) = rw system (view, told)

-- that it is not told stops it before anything was written
module _ (s : Streams) (untouched : IsUntouched s) (bytes : List ℕ) (within : length bytes ≤ MAX_INPUT_LENGTH) where
  pub stops_rechecking : (options : RecheckOptions) (fault : Fault) → IsNotRechecked options.workers bytes fault
      → (options.keeps_going ≡ true → IsPastReads fault) → StopsRechecking options s fault
  stops_rechecking options (faults.Recheck error) why past = ((bytes, within, why), past, untouched)
  stops_rechecking options (faults.Refused refusal) why past = ((bytes, within, why), untouched)
  stops_rechecking options (faults.Scan fault) why past = ((bytes, within, why), untouched)
  stops_rechecking options faults.Resources why past = untouched
  stops_rechecking options (faults.Usage line) why past = absurd why
  stops_rechecking options (faults.Name fault) why past = absurd why
  stops_rechecking options (faults.Make error) why past = absurd why
  stops_rechecking options (faults.Piece error) why past = absurd why
  stops_rechecking options (faults.Plan error) why past = absurd why
  stops_rechecking options (faults.Join error part) why past = absurd why
  stops_rechecking options (faults.NotAsMade good pieces) why past = absurd why
  stops_rechecking options faults.OutAmongFiles why past = absurd why
  stops_rechecking options (faults.Argument fault) why past = absurd why
  stops_rechecking options (faults.Read fault) why past = absurd why
  stops_rechecking options faults.TooLong why past = absurd why
  stops_rechecking options (faults.Write written) why past = absurd why

  pub stops_lot_recheck : (options : LotRecheckOptions) (fault : Fault) → IsNotRechecked options.workers bytes fault
      → IsFaultOfLot options.lot bytes fault → StopsLotRecheck options s fault
  stops_lot_recheck options (faults.Recheck error) why of_lot = ((bytes, within, (why, of_lot)), untouched)
  stops_lot_recheck options (faults.Refused refusal) why of_lot = ((bytes, within, why), untouched)
  stops_lot_recheck options (faults.Scan fault) why of_lot = ((bytes, within, why), untouched)
  stops_lot_recheck options faults.Resources why of_lot = untouched
  stops_lot_recheck options (faults.Usage line) why of_lot = absurd why
  stops_lot_recheck options (faults.Name fault) why of_lot = absurd why
  stops_lot_recheck options (faults.Make error) why of_lot = absurd why
  stops_lot_recheck options (faults.Piece error) why of_lot = absurd why
  stops_lot_recheck options (faults.Plan error) why of_lot = absurd why
  stops_lot_recheck options (faults.Join error part) why of_lot = absurd why
  stops_lot_recheck options (faults.NotAsMade good pieces) why of_lot = absurd why
  stops_lot_recheck options faults.OutAmongFiles why of_lot = absurd why
  stops_lot_recheck options (faults.Argument fault) why of_lot = absurd why
  stops_lot_recheck options (faults.Read fault) why of_lot = absurd why
  stops_lot_recheck options faults.TooLong why of_lot = absurd why
  stops_lot_recheck options (faults.Write written) why of_lot = absurd why

  pub stops_extra : (options : ExtraOptions) (fault : Fault) → IsNoExtra bytes fault → StopsExtra options s fault
  stops_extra options (faults.Refused refusal) why = ((bytes, within, why), untouched)
  stops_extra options (faults.Scan fault) why = ((bytes, within, why), untouched)
  stops_extra options faults.Resources why = untouched
  stops_extra options (faults.Usage line) why = absurd why
  stops_extra options (faults.Name fault) why = absurd why
  stops_extra options (faults.Make error) why = absurd why
  stops_extra options (faults.Piece error) why = absurd why
  stops_extra options (faults.Recheck error) why = absurd why
  stops_extra options (faults.Plan error) why = absurd why
  stops_extra options (faults.Join error part) why = absurd why
  stops_extra options (faults.NotAsMade good pieces) why = absurd why
  stops_extra options faults.OutAmongFiles why = absurd why
  stops_extra options (faults.Argument fault) why = absurd why
  stops_extra options (faults.Read fault) why = absurd why
  stops_extra options faults.TooLong why = absurd why
  stops_extra options (faults.Write written) why = absurd why
