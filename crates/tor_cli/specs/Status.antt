-- What stops the program: which fault a step's fault is, and the status that the program ends with.
use Rattle.std.specs.Prelude.{ℕ}
use Rattle.tor_check.specs.declared.piece_proofs.ProveError.{ProveError}
use Rattle.tor_check.specs.declared.piece_proofs.ProveError.TheVariants as pieces
use Rattle.std.specs.declared.io.Error.{Error}
use Rattle.tor_check.specs.declared.refusal.Refusal.{Refusal}
use Rattle.tor_check.specs.declared.refusal.Refusal.TheVariants as refusals
use Rattle.tor_meta.specs.declared.make_error.MakeError.{MakeError}
use Rattle.tor_meta.specs.declared.make_error.MakeError.TheVariants as makes
use Rattle.tor_sums.specs.declared.errors.EngineError.TheVariants as engine
use Rattle.tor_recheck.specs.declared.errors.RecheckError.{RecheckError}
use Rattle.tor_recheck.specs.declared.errors.RecheckError.TheVariants as rechecks
use Rattle.tor_source.specs.declared.faults.ScanFault.{ScanFault}
use Rattle.tor_source.specs.declared.faults.ScanFault.TheVariants as scans
use Rattle.tor_tree.specs.declared.names.NameError.{NameError}
use Rattle.tor_tree.specs.declared.names.NameError.TheVariants as names
use Rattle.tor_tree.specs.declared.lists.ListError.{ListError}
use Rattle.tor_tree.specs.declared.lists.ListError.TheVariants as lists
use Rattle.tor_source.specs.declared.input.InputFault.{InputFault}
use Rattle.tor_source.specs.declared.input.InputFault.TheVariants as inputs
use Rattle.tor_meta.specs.declared.listing_error.PlanError.{PlanError}
use Rattle.tor_meta.specs.declared.listing_error.PlanError.TheVariants as plans
use Rattle.tor_report.specs.declared.fault.ReportFault.{ReportFault}
use Rattle.tor_report.specs.declared.fault.ReportFault.TheVariants as reports
use Rattle.tor_meta.specs.declared.from_input.FromFault.{FromFault}
use Rattle.tor_meta.specs.declared.from_input.FromFault.TheVariants as steps
use Rattle.tor_cli.specs.declared.make.paths_text.PathsFault.{PathsFault}
use Rattle.tor_cli.specs.declared.make.paths_text.PathsFault.TheVariants as texts
use Rattle.tor_cli.specs.declared.proof.claim.ArgumentFault.TheVariants.{Files}
use Rattle.tor_cli.specs.declared.fault.Fault.{Fault}
use Rattle.tor_cli.specs.declared.fault.Fault.TheVariants.{Usage, Name, Scan, Make, Refused, Piece, Recheck, Argument}
use Rattle.tor_cli.specs.declared.fault.Fault.TheVariants.{Plan, Join, NotAsMade, OutAmongFiles, Read, TooLong, Write, Resources}

abbrev pub of_input_fault : InputFault → Fault
of_input_fault (inputs.Read fault) = Read fault
of_input_fault inputs.TooLong = TooLong
of_input_fault inputs.Memory = Resources

abbrev pub of_name_error : NameError → Fault
of_name_error names.Memory = Resources
of_name_error fault = Name fault

abbrev pub of_paths_fault : PathsFault → Fault
of_paths_fault (texts.Name fault) = Name fault
of_paths_fault texts.Unended = Argument Files
of_paths_fault texts.Memory = Resources

abbrev pub of_list_error : ListError → Fault
of_list_error lists.Memory = Resources
of_list_error fault = Make (makes.List fault)

abbrev pub of_scan_fault : ScanFault → Fault
of_scan_fault scans.Memory = Resources
of_scan_fault fault = Scan fault

abbrev pub of_make_error : MakeError Error → Fault
of_make_error (makes.Hashing engine.Resources) = Resources
of_make_error error = Make error

abbrev pub of_refusal : Refusal → Fault
of_refusal refusals.Memory = Resources
of_refusal refusal = Refused refusal

abbrev pub of_piece_error : ProveError → Fault
of_piece_error pieces.Memory = Resources
of_piece_error error = Piece error

-- of a plan, which is judged as `join` judges it
abbrev pub of_plan_error : PlanError → Fault
of_plan_error plans.Memory = Resources
of_plan_error error = Plan error

abbrev pub of_recheck_error : RecheckError Error → Fault
of_recheck_error rechecks.Resources = Resources
of_recheck_error error = Recheck error

abbrev pub of_report_fault : ReportFault → Fault
of_report_fault reports.Memory = Resources
of_report_fault (reports.Write fault) = Write fault.written

abbrev pub of_step_fault : FromFault → Fault
of_step_fault (steps.Input fault) = of_input_fault fault
of_step_fault (steps.Make error) = of_make_error error
of_step_fault (steps.Write fault) = Write fault.written

-- the names below a folder are refused, or the system did not tell them
abbrev pub status_of_scan : ScanFault → ℕ
status_of_scan scans.NotUtf8 = 1
status_of_scan scans.NotRegular = 1
status_of_scan scans.TooDeep = 1
status_of_scan scans.System = 3
status_of_scan scans.Memory = 4

-- the order or the paths are refused, or a file was not read as it was told to be
abbrev pub status_of_make : {F : Type 0} → MakeError F → ℕ
status_of_make (makes.Hashing engine.Resources) = 4
status_of_make (makes.Hashing fault) = 3
status_of_make refusal = 1

-- the bytes are no torrent
abbrev pub status_of_refusal : Refusal → ℕ
status_of_refusal refusals.Memory = 4
status_of_refusal refusal = 1

-- there is no such piece, or no tree that it is of
abbrev pub status_of_piece : ProveError → ℕ
status_of_piece pieces.Memory = 4
status_of_piece error = 1

-- a file was not read, or did not stay as long as it was told to be
abbrev pub status_of_recheck : {F : Type 0} → RecheckError F → ℕ
status_of_recheck (rechecks.Read file start fault) = 3
status_of_recheck (rechecks.Changed file) = 3
status_of_recheck rechecks.Resources = 4
status_of_recheck rechecks.Workers = 1

-- the status at a fault (profile)
abbrev pub status_of : Fault → ℕ
status_of (Usage line) = 2
status_of (Name fault) = 1
status_of (Scan fault) = status_of_scan fault
status_of (Make error) = status_of_make error
status_of (Refused refusal) = status_of_refusal refusal
status_of (Piece error) = status_of_piece error
status_of (Recheck error) = status_of_recheck error
status_of (Plan error) = 1
status_of (Join error part) = 1
status_of (NotAsMade good pieces) = 1
status_of OutAmongFiles = 1
status_of (Argument fault) = 1
status_of (Read fault) = 3
status_of TooLong = 3
status_of (Write written) = 3
status_of Resources = 4
