-- What a report leaves in a writer, or in another sink.
use Rattle.std.specs.Prelude.{◌≡◌, ℕ, List, Option}
use Rattle.tor_spec.specs.Output.{IsFront}
use Rattle.tor_report.specs.Sinks.{IsStopped}
use Rattle.tor_report.specs.declared.fault.ReportFault.{ReportFault}
use Rattle.tor_report.specs.declared.fault.ReportFault.TheVariants.{Memory, Write}

-- why a text was not written whole: memory was refused before its first byte, or so many of its bytes went out and
-- nothing else (profile)
abbrev pub IsCutShort : List ℕ → Option (List ℕ) → Option (List ℕ) → ReportFault → Type 0
IsCutShort text writer writer' Memory = writer' ≡ writer
IsCutShort text writer writer' (Write fault) = IsFront writer writer' fault.written text

-- the same of any sink, which could not take the text whole (profile)
abbrev pub IsReportStopped : {S : Type 0} → (S → S → List ℕ → Type 0) → (S → List ℕ → Type 0) → List ℕ → S → S
    → ReportFault → Type 0
IsReportStopped took fails text out out' Memory = out' ≡ out
IsReportStopped took fails text out out' (Write fault) = IsStopped took fails out out' fault.written text
