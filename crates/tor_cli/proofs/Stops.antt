-- Which fault of the program a step's fault is, and where it stopped.
use Rattle.std.proofs.Common.{◌≡◌, ◌≢◌, ◌⊎◌, ◌<◌, ◌∙◌, ◌∷◌, [], inl, inr, refl, sym, ap, subst}
use Rattle.std.proofs.Common.{Bool, true, false, ℕ, List, length, Option, None, Some, Result, Ok, Err, IfErr}
use Rattle.std.specs.Io.KnownBytes.{Keeps}
use Rattle.std.specs.declared.io.Error.{Error}
use Rattle.tor_meta.specs.declared.make_error.MakeError.{MakeError}
use Rattle.tor_meta.specs.MakeError.{out_of_resources}
use Rattle.tor_meta.specs.declared.make_error.MakeError.TheVariants as makes
use Rattle.tor_sums.specs.declared.errors.EngineError.TheVariants as engine
use Rattle.tor_meta.specs.declared.order.Order.{Order}
use Rattle.tor_meta.specs.Make.{IsGivenTo, IsOwn, make_refusal}
use Rattle.tor_source.specs.Answers.{system_answers}
use Rattle.tor_sums.specs.declared.how.How.{How}
use Rattle.tor_cli.specs.declared.make.way.Way.{Way}
use Rattle.tor_cli.specs.declared.make.way.Way.TheVariants.{Shared}
use Rattle.tor_source.specs.declared.faults.ScanFault.{ScanFault}
use Rattle.tor_source.specs.declared.faults.ScanFault.TheVariants as scans
use Rattle.tor_tree.specs.FileList.{paths_of}
use Rattle.tor_tree.specs.Name.{name_fault}
use Rattle.tor_tree.specs.declared.attr.Attr.{Attr}
use Rattle.tor_source.specs.Input.{EndsInput, ReadsSome}
use Rattle.tor_meta.specs.FromInput.{MakesOf, StopsReading}
use Rattle.tor_cli.specs.make.Attrs.{IsNotLettered}
use Rattle.tor_cli.specs.Place.{AreFilesAt, IsChosenMissing, IsGivenBy, IsNotFound, refusal_by}
use Rattle.tor_cli.specs.make.Request.{IsOrderOf, IsOrderOfOne, IsRefusedFirst, OnlyReads, SendsFront, StopsFiles}
use Rattle.tor_cli.specs.make.Request.{StopsFinding, StopsInput, StopsSending, attrs_of, file_of, input_refusal}
use Rattle.tor_cli.specs.steps.Lettering.{IsNotOrdered}
use Rattle.tor_cli.specs.Streams.{IsUntouched, Streams}
use Rattle.tor_cli.specs.Status.{of_input_fault, of_make_error, of_scan_fault, of_step_fault}
use Rattle.tor_source.specs.declared.input.TheConstants.{MAX_INPUT_LENGTH}
use Rattle.tor_source.specs.declared.input.InputFault.{InputFault}
use Rattle.tor_source.specs.declared.input.InputFault.TheVariants as inputs
use Rattle.tor_meta.specs.declared.from_input.FromFault.{FromFault}
use Rattle.tor_meta.specs.declared.from_input.FromFault.TheVariants.{Input, Make, Write}
use Rattle.tor_cli.proofs.Sizes.{has_bytes}
use Rattle.tor_cli.specs.declared.make.options.MakeOptions.{MakeOptions}
use Rattle.tor_cli.specs.declared.fault.Fault.{Fault}
use Rattle.tor_cli.specs.declared.fault.Fault.TheVariants as faults

is_memory : MakeError Error → Bool
is_memory (makes.Hashing engine.Resources) = true
is_memory error = false

-- want of memory is the program's own, and every other error of making stays what it is
kept_or_memory : (error : MakeError Error)
    → ((is_memory error ≡ false) × (of_make_error error ≡ faults.Make error)) ⊎ (error ≡ out_of_resources)
unfolding is_memory
kept_or_memory makes.PieceLength = inl (refl, refl)
kept_or_memory makes.Workers = inl (refl, refl)
kept_or_memory makes.Span = inl (refl, refl)
kept_or_memory makes.Path = inl (refl, refl)
kept_or_memory makes.SingleShape = inl (refl, refl)
kept_or_memory makes.NotSorted = inl (refl, refl)
kept_or_memory (makes.List fault) = inl (refl, refl)
kept_or_memory makes.ReservedPad = inl (refl, refl)
kept_or_memory (makes.Hashing (engine.Read file start fault)) = inl (refl, refl)
kept_or_memory (makes.Hashing (engine.Changed file)) = inl (refl, refl)
kept_or_memory (makes.Hashing (engine.Missing file)) = inl (refl, refl)
kept_or_memory (makes.Hashing engine.Resources) = inr refl
kept_or_memory (makes.Hashing (engine.StreamTooLong file)) = inl (refl, refl)

is_refused : (first : Option (MakeError Error)) (error : MakeError Error) → is_memory error ≡ false
    → (first ≡ Some error) ⊎ (error ≡ out_of_resources) → first ≡ Some error
unfolding is_memory
is_refused first error other (inl refused) = refused
is_refused first error other (inr memory) = let bad : true ≡ false = sym (ap is_memory memory) ∙ other in cc

is_no_memory : (error : MakeError Error) → is_memory error ≡ false → error ≢ out_of_resources
unfolding is_memory
is_no_memory error other = λ same. let bad : true ≡ false = sym (ap is_memory same) ∙ other in cc

-- what is answered of each refusal is so of the one that there is
pub refused_first : {A : Type 0} (first : Option (MakeError Error)) (result : Result A (MakeError Error))
    → ((refusal : MakeError Error) → first ≡ Some refusal
    → IfErr result (λ error. (error ≡ out_of_resources) ⊎ (error ≡ refusal))) → IfErr result (IsRefusedFirst first)
refused_first first (Ok bytes) given = tt
refused_first first (Err error) given = given

-- a fault of a file of letters, or want of memory
of_letters : Fault → Bool
of_letters (faults.Argument fault) = true
of_letters (faults.Read fault) = true
of_letters faults.TooLong = true
of_letters faults.Resources = true
of_letters fault = false

-- no other keeps files from their letters
no_other : (place : Option (List ℕ)) (paths : List (List (List ℕ))) (fault : Fault) → of_letters fault ≡ false
    → IsNotLettered place paths fault → ⊥
unfolding of_letters
no_other place paths (faults.Argument fault) e why = absurd cc
no_other place paths (faults.Read fault) e why = absurd cc
no_other place paths faults.TooLong e why = absurd cc
no_other place paths faults.Resources e why = absurd cc
no_other None paths fault e why = why
no_other (Some place) paths fault e why = why

module _ (options : MakeOptions) (s : Streams) where
  stops_input : (fault : InputFault) → ReadsSome s.reader s.reader' (EndsInput MAX_INPUT_LENGTH fault)
      → Keeps s.writer s.writer' → StopsInput options s (of_input_fault fault)
  stops_input (inputs.Read fault) given keeps = inl (given, keeps)
  stops_input inputs.TooLong given keeps = inl (given, keeps)
  stops_input inputs.Memory given keeps = (given, keeps)

  stops_make : (order : Order) (attr : Attr) → IsOrderOfOne options order attr
      → (error : MakeError Error) → StopsReading (input_refusal options order) s.reader s.reader' (Make error)
      → Keeps s.writer s.writer' → StopsInput options s (of_make_error error)
  stops_make order attr is error (content, reads, either) keeps = elim (kept_or_memory error) [
    | inl kept ↦ rw kept.1 (
      (order, attr, is, is_refused (input_refusal options order) error kept.0 either),
      ((content, reads), keeps),
    )
    | inr memory ↦ rw memory ((content, reads.0.given, reads.1), keeps)
  ]

  pub stops_reading : (order : Order) (attr : Attr) → IsOrderOfOne options order attr
      → (fault : FromFault) → StopsReading (input_refusal options order) s.reader s.reader' fault
      → Keeps s.writer s.writer' → StopsInput options s (of_step_fault fault)
  stops_reading order attr is (Input fault) given keeps = stops_input fault given keeps
  stops_reading order attr is (Make error) given keeps = stops_make order attr is error given keeps
  stops_reading order attr is (Write fault) given keeps = absurd given

  -- so many bytes of the torrent went out
  pub stops_sent : (order : Order) (attr : Attr) → IsOrderOfOne options order attr → (torrent : List ℕ)
      → ((content : List ℕ) × MakesOf (input_refusal options order) order attr s.reader s.reader'
      (λ bytes. torrent ≡ bytes) content)
      → (written : ℕ) → (0 < length torrent → SendsFront (file_of options) s.writer s.writer' written torrent)
      → StopsInput options s (faults.Write written)
  stops_sent order attr is torrent (content, made) written front =
      let long : 0 < length torrent = subst (λ t. 0 < length t) (sym made.torrent) (has_bytes _ _) in
      let sent : MakesOf (input_refusal options order) order attr s.reader s.reader'
      (SendsFront (file_of options) s.writer s.writer' written) content =
      record {
        read = made.read;
        accepted = made.accepted;
        torrent = subst (SendsFront (file_of options) s.writer s.writer' written) made.torrent (front long);
      } in
      (order, attr, is, (content, sent))

  -- a fault that comes before anything was written
  pub stops_sending : (chosen : Option (List (List (List ℕ)))) → (fault : Fault) → StopsSending options chosen fault
      → IsUntouched s → StopsFiles options chosen s fault
  unfolding of_letters
  stops_sending chosen (faults.Usage line) why untouched = (why, untouched)
  stops_sending chosen (faults.Name fault) why untouched = (why, untouched)
  stops_sending chosen (faults.Scan fault) why untouched = (why, untouched)
  stops_sending chosen (faults.Make error) why untouched = (why, untouched)
  stops_sending chosen (faults.Refused refusal) why untouched = (why, untouched)
  stops_sending chosen (faults.Piece error) why untouched = (why, untouched)
  stops_sending chosen (faults.Recheck error) why untouched = (why, untouched)
  stops_sending chosen (faults.Plan error) why untouched = (why, untouched)
  stops_sending chosen (faults.Join error part) why untouched = (why, untouched)
  stops_sending chosen (faults.NotAsMade good pieces) why untouched = (why, untouched)
  stops_sending chosen faults.OutAmongFiles why untouched = (why, untouched)
  stops_sending chosen (faults.Argument fault) why untouched = (why, untouched)
  stops_sending chosen (faults.Read fault) why untouched = (why, untouched)
  stops_sending chosen faults.TooLong why untouched = (why, untouched)
  stops_sending chosen (faults.Write written) why untouched = inl (why, untouched)
  stops_sending chosen faults.Resources why untouched = (why, untouched)

module _ (options : MakeOptions) (chosen : Option (List (List (List ℕ)))) where
  -- an error of making is of the order and the paths
  pub finding_make : (order : Order) (files : List (List (List ℕ) × Attr))
      (error : MakeError Error) → IsOrderOf options chosen order files
      → IsOwn (refusal_by options.way order (paths_of files)) error
      → IsRefusedFirst (refusal_by options.way order (paths_of files)) error
      → IsGivenBy options.way (length files) error → StopsFinding options chosen (of_make_error error)
  finding_make order files error is own first gave = elim (kept_or_memory error) [
    | inl kept ↦ rw kept.1 (inr (order, files, is, own, first, gave, is_no_memory error kept.0))
    | inr memory ↦ rw memory tt
  ]

  -- so is one of workers that read what they hash
  pub finding_shared : (how : How) → options.way ≡ Shared how → (order : Order)
      (files : List (List (List ℕ) × Attr)) (error : MakeError Error) → IsOrderOf options chosen order files
      → IsOwn (make_refusal order (paths_of files)) error → IsRefusedFirst (make_refusal order (paths_of files)) error
      → IsGivenTo (system_answers (length files)) (length files) error
      → StopsFinding options chosen (of_make_error error)
  finding_shared how same order files error is own first gave =
      finding_make order files error is
      (subst (λ (way : Way). IsOwn (refusal_by way order (paths_of files)) error) (sym same) own)
      (subst (λ (way : Way). IsRefusedFirst (refusal_by way order (paths_of files)) error) (sym same) first)
      (subst (λ (way : Way). IsGivenBy way (length files) error) (sym same) gave)

  -- why no files were found, of which a scan's want of memory is the program's own
  pub not_scanned : (name : List ℕ) (attrs : Option (List ℕ)) (fault : ScanFault)
      → IsNotFound name chosen attrs (of_scan_fault fault)
  not_scanned name attrs scans.NotUtf8 = λ same. cc
  not_scanned name attrs scans.NotRegular = λ same. cc
  not_scanned name attrs scans.TooDeep = λ same. cc
  not_scanned name attrs scans.System = λ same. cc
  not_scanned name attrs scans.Memory = tt

  -- that files get no letters is why none were found
  pub not_lettered : (name : List ℕ) (attrs : Option (List ℕ)) (single : Bool) (paths : List (List (List ℕ)))
      → AreFilesAt name chosen single paths → (fault : Fault) → IsNotLettered attrs paths fault
      → IsNotFound name chosen attrs fault
  unfolding of_letters
  not_lettered name attrs single paths found (faults.Scan fault) why =
      absurd (no_other attrs paths (faults.Scan fault) refl why)
  not_lettered name attrs single paths found (faults.Make error) why =
      absurd (no_other attrs paths (faults.Make error) refl why)
  not_lettered name attrs single paths found faults.Resources why = tt
  not_lettered name attrs single paths found fault why = (single, paths, found, why)

  -- and that none were found is why there is no torrent of them
  pub not_found : name_fault options.name.now ≡ None → (fault : Fault)
      → IsNotFound options.name.now chosen (attrs_of options) fault → StopsFinding options chosen fault
  unfolding of_letters
  not_found named (faults.Name fault) (single, paths, found, why) =
      absurd (no_other (attrs_of options) paths (faults.Name fault) refl why)
  not_found named (faults.Make error) missing = inl (named, missing)
  not_found named faults.OutAmongFiles (single, paths, found, why) =
      absurd (no_other (attrs_of options) paths faults.OutAmongFiles refl why)
  not_found named (faults.Write written) (single, paths, found, why) =
      absurd (no_other (attrs_of options) paths (faults.Write written) refl why)
  not_found named faults.Resources why = tt
  not_found named fault why = (named, why)

-- what keeps one file from its order, after all was read
pub not_ordered : (options : MakeOptions) (s : Streams) (fault : Fault) → IsNotOrdered options fault → OnlyReads s
    → StopsInput options s fault
unfolding of_letters
not_ordered options s (faults.Name fault) why read = (why, read)
not_ordered options s (faults.Argument fault) (named, why) read = (named, why, read)
not_ordered options s (faults.Read fault) (named, why) read = inr (named, why, read)
not_ordered options s faults.TooLong (named, why) read = inr (named, why, read)
not_ordered options s faults.Resources why ((content, reads), keeps) = ((content, reads.0.given, reads.1), keeps)
not_ordered options s (faults.Usage line) (named, why) read =
    absurd (no_other (attrs_of options) ((options.name.now ∷ []) ∷ []) (faults.Usage line) refl why)
not_ordered options s (faults.Scan fault) (named, why) read =
    absurd (no_other (attrs_of options) ((options.name.now ∷ []) ∷ []) (faults.Scan fault) refl why)
not_ordered options s (faults.Make error) (named, why) read =
    absurd (no_other (attrs_of options) ((options.name.now ∷ []) ∷ []) (faults.Make error) refl why)
not_ordered options s (faults.Refused refusal) (named, why) read =
    absurd (no_other (attrs_of options) ((options.name.now ∷ []) ∷ []) (faults.Refused refusal) refl why)
not_ordered options s (faults.Piece error) (named, why) read =
    absurd (no_other (attrs_of options) ((options.name.now ∷ []) ∷ []) (faults.Piece error) refl why)
not_ordered options s (faults.Recheck error) (named, why) read =
    absurd (no_other (attrs_of options) ((options.name.now ∷ []) ∷ []) (faults.Recheck error) refl why)
not_ordered options s (faults.Plan error) (named, why) read =
    absurd (no_other (attrs_of options) ((options.name.now ∷ []) ∷ []) (faults.Plan error) refl why)
not_ordered options s (faults.Join error part) (named, why) read =
    absurd (no_other (attrs_of options) ((options.name.now ∷ []) ∷ []) (faults.Join error part) refl why)
not_ordered options s (faults.NotAsMade good pieces) (named, why) read =
    absurd (no_other (attrs_of options) ((options.name.now ∷ []) ∷ []) (faults.NotAsMade good pieces) refl why)
not_ordered options s faults.OutAmongFiles (named, why) read =
    absurd (no_other (attrs_of options) ((options.name.now ∷ []) ∷ []) faults.OutAmongFiles refl why)
not_ordered options s (faults.Write written) (named, why) read =
    absurd (no_other (attrs_of options) ((options.name.now ∷ []) ∷ []) (faults.Write written) refl why)
