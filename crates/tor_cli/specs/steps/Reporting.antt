-- What a recheck tells before it is printed, and what stops the printing. Only private clauses cite this.
use Rattle.std.specs.Prelude.{◌≡◌, ℕ, Bool, List, Option}
use Rattle.tor_spec.specs.Output.{IsFront}
use Rattle.tor_spec.specs.declared.hashes.Hashes.{Hashes}
use Rattle.tor_view.specs.declared.files.FileFound.{FileFound}
use Rattle.tor_report.specs.declared.fault.ReportFault.{ReportFault}
use Rattle.tor_report.specs.declared.fault.ReportFault.TheVariants.{Memory, Write}
use Rattle.tor_spec.specs.valid.View.{View}
use Rattle.tor_cli.specs.recheck.Recheck.{IsRechecked, IsReportOn, IsText, recheck_answer}
use Rattle.tor_cli.specs.declared.recheck.command.Told.{Told}
use Rattle.tor_cli.specs.declared.recheck.text.Report.{Report}
use Rattle.tor_cli.specs.declared.recheck.words.RecheckOptions.{RecheckOptions}

-- the report tells of these bits and these files
pub record IsReportOf (bits : List Bool) (found : List FileFound) (report : Report) : Type 0 where
  pub same : report.bits ≡ bits
  pub each : report.files.items ≡ found
  pub answered : report.answer ≡ recheck_answer bits

-- whatever is printed of the report is printed of some findings
abbrev pub IsReportedOn : RecheckOptions → View → Hashes → Report → Type 0
IsReportedOn options view hashes report =
    (text : List ℕ) → IsText options.form options.listing view hashes report.bits report.files.items text
    → IsReportOn options view hashes text report.answer

-- whatever is printed of what was told, the bytes are a torrent of which it is printed
abbrev pub IsToldRechecked : RecheckOptions → List ℕ → Told → Type 0
IsToldRechecked options bytes told =
    (text : List ℕ)
    → IsText options.form options.listing told.judged.torrent told.judged.hashes told.report.bits
    told.report.files.items text → IsRechecked options bytes text told.report.answer

-- why a text of which this holds was not written whole: memory was refused before its first byte, or so many of its
-- bytes went out and nothing else
abbrev pub IsNotWritten : (List ℕ → Type 0) → Option (List ℕ) → Option (List ℕ) → ReportFault → Type 0
IsNotWritten Holds writer writer' Memory = writer' ≡ writer
IsNotWritten Holds writer writer' (Write fault) =
    (text : List ℕ) × Holds text × IsFront writer writer' fault.written text
