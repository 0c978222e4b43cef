-- What a recheck tells, and what is printed of it.
use Rattle.std.proofs.Common.{◌≡◌, ◌≤◌, refl, sym, subst, ℕ, Bool, List, ◌++◌, length}
use Rattle.std.specs.Io.KnownBytes.{Appends}
use Rattle.std.specs.Prelude.{IfErr, OnOk, Option, Result, Ok, Err}
use Rattle.std.specs.Result.{IsErr, IsErrAnd}
use Rattle.tor_spec.specs.declared.hashes.Hashes.{Hashes}
use Rattle.tor_view.specs.declared.files.FileFound.{FileFound}
use Rattle.tor_report.specs.Reports.{IsCutShort}
use Rattle.tor_report.specs.declared.fault.ReportFault.{ReportFault}
use Rattle.tor_report.specs.declared.fault.ReportFault.TheVariants as reports
use Rattle.tor_source.specs.declared.input.TheConstants.{MAX_INPUT_LENGTH}
use Rattle.tor_spec.specs.valid.View.{View}
use Rattle.tor_cli.specs.Status.{of_report_fault}
use Rattle.tor_cli.specs.recheck.FoundFiles.{told_of_files}
use Rattle.tor_cli.specs.recheck.Recheck.{IsReport, IsText, StopsRechecking, pieces_text}
use Rattle.tor_cli.specs.steps.Reporting.{IsNotWritten, IsReportOf, IsToldRechecked}
use Rattle.tor_cli.specs.steps.Writing.{writing}
use Rattle.tor_cli.specs.declared.recheck.command.Told.{Told}
use Rattle.tor_cli.specs.declared.recheck.listing.Form.{Form}
use Rattle.tor_cli.specs.declared.recheck.listing.Form.TheVariants.{Brief, Text}
use Rattle.tor_cli.specs.declared.recheck.listing.FileListing.{FileListing}
use Rattle.tor_cli.specs.declared.recheck.text.Report.{Report}
use Rattle.tor_cli.specs.declared.recheck.words.RecheckOptions.{RecheckOptions}

-- what is printed of a report is printed of its bits and its files
pub printed_of : (options : RecheckOptions) (view : View) (hashes : Hashes) (bits : List Bool)
    (found : List FileFound) (report : Report) (text : List ℕ) → IsReportOf bits found report
    → IsText options.form options.listing view hashes report.bits report.files.items text
    → IsReport options view hashes bits found text report.answer
printed_of options view hashes bits found report text is printed = record {
  printed =
      subst (λ (files : List FileFound). IsText options.form options.listing view hashes bits files text) is.each
      (subst (λ (held : List Bool). IsText options.form options.listing view hashes held report.files.items text)
      is.same printed);
  answered = is.answered;
}

-- ---- what went out

module _ (listing : FileListing) (view : View) (hashes : Hashes) (bits : List Bool) (files : List FileFound) where
  pub are_lines : (form : Form) → form ≡ Text → IsText form listing view hashes bits files
      (pieces_text form listing bits ++ told_of_files listing files view.files)
  are_lines form is = rw is refl

  pub are_brief : (form : Form) → form ≡ Brief → IsText form listing view hashes bits files
      (pieces_text form listing bits ++ told_of_files listing files view.files)
  are_brief form is = rw is refl

pub went_out : (Holds : List ℕ → Type 0) (text : List ℕ) (writer writer' : Option (List ℕ))
    (result : Result (Unit {0}) ReportFault) → Holds text → OnOk result (Appends writer writer' text)
    → OnOk result ((text : List ℕ) × Holds text × Appends writer writer' text)
went_out Holds text writer writer' (Ok done) holds printed = (text, holds, printed)
went_out Holds text writer writer' (Err fault) holds printed = tt

pub did_not : (Holds : List ℕ → Type 0) (text : List ℕ) (writer writer' : Option (List ℕ))
    (result : Result (Unit {0}) ReportFault) → Holds text → IfErr result (IsCutShort text writer writer')
    → IfErr result (IsNotWritten Holds writer writer')
did_not Holds text writer writer' (Ok done) holds stopped = tt
did_not Holds text writer writer' (Err reports.Memory) holds stopped = stopped
did_not Holds text writer writer' (Err (reports.Write fault)) holds stopped = (text, holds, stopped)

-- memory was refused first
pub nothing_out : {A : Type 0} (Holds : List ℕ → Type 0) (writer : Option (List ℕ)) (result : Result A ReportFault)
    → IsErr result × IsErrAnd result (λ x. x ≡ reports.Memory) → IfErr result (IsNotWritten Holds writer writer)
nothing_out Holds writer (Ok done) same = tt
nothing_out Holds writer (Err fault) same =
    subst (IsNotWritten Holds writer writer) (sym same.1) refl

-- a torrent was rechecked, but what is printed of it was not written whole
pub not_written : (options : RecheckOptions) (bytes : List ℕ) (told : Told) (reader writer writer' : Option (List ℕ))
    (fault : ReportFault) → length bytes ≤ MAX_INPUT_LENGTH → IsToldRechecked options bytes told
    → IsNotWritten (IsText options.form options.listing told.judged.torrent told.judged.hashes told.report.bits
    told.report.files.items) writer writer' fault
    → StopsRechecking options (writing reader writer writer') (of_report_fault fault)
not_written options bytes told reader writer writer' reports.Memory within rechecked same = (refl, same)
not_written options bytes told reader writer writer' (reports.Write fault) within rechecked (text, printed, front) =
    (refl, (told.report.answer, (bytes, within, (text, rechecked text printed, front))))
