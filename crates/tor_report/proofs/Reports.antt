-- What a report has written, and why it stopped.
use Rattle.std.proofs.Common.{◌≡◌, refl, sym, subst, ℕ, List, Result, Ok, Err}
use Rattle.std.specs.Prelude.{Option, IfErr}
use Rattle.std.specs.Result.{IsErr, IsErrAnd}
use Rattle.tor_spec.specs.Output.{IsFront}
use Rattle.tor_spec.specs.declared.output.WriteFault.{WriteFault}
use Rattle.tor_report.specs.Reports.{IsCutShort, IsReportStopped}
use Rattle.tor_report.specs.Sinks.{IsStopped}
use Rattle.tor_report.specs.declared.fault.ReportFault.{ReportFault}
use Rattle.tor_report.specs.declared.fault.ReportFault.TheVariants as faults

at_fault : {A : Type 0} (r : Result A ReportFault) (e : ReportFault) (P : ReportFault → Type 0)
    → IsErr r × IsErrAnd r (λ x. x ≡ e) → P e → IfErr r P
at_fault (Ok a) e P same holds = tt
at_fault (Err x) e P same holds = subst P (sym same.1) holds

pub without_memory : {A : Type 0} (r : Result A ReportFault) (text : List ℕ) (writer : Option (List ℕ))
    → IsErr r × IsErrAnd r (λ x. x ≡ faults.Memory) → IfErr r (IsCutShort text writer writer)
without_memory r text writer same = at_fault r faults.Memory (IsCutShort text writer writer) same refl

pub at_write : {A : Type 0} (r : Result A ReportFault) (fault : WriteFault) (text : List ℕ)
    (writer writer' : Option (List ℕ)) → IsErr r × IsErrAnd r (λ x. x ≡ faults.Write fault)
    → IsFront writer writer' fault.written text → IfErr r (IsCutShort text writer writer')
at_write r fault text writer writer' same front =
    at_fault r (faults.Write fault) (IsCutShort text writer writer') same front

-- ---- any sink

pub without_memory_sent : {S : Type 0} (took : S → S → List ℕ → Type 0) (fails : S → List ℕ → Type 0) {A : Type 0}
    (r : Result A ReportFault) (text : List ℕ) (out : S) → IsErr r × IsErrAnd r (λ x. x ≡ faults.Memory)
    → IfErr r (IsReportStopped took fails text out out)
without_memory_sent took fails r text out same = at_fault r faults.Memory (IsReportStopped took fails text out out)
    same refl

pub at_send : {S : Type 0} (took : S → S → List ℕ → Type 0) (fails : S → List ℕ → Type 0) {A : Type 0}
    (r : Result A ReportFault) (fault : WriteFault) (text : List ℕ) (out out' : S)
    → IsErr r × IsErrAnd r (λ x. x ≡ faults.Write fault) → IsStopped took fails out out' fault.written text
    → IfErr r (IsReportStopped took fails text out out')
at_send took fails r fault text out out' same stopped =
    at_fault r (faults.Write fault) (IsReportStopped took fails text out out') same stopped
