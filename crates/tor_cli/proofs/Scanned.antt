-- What a scan found, and why it was not written whole.
use Rattle.std.proofs.Common.{ℕ, List, inr}
use Rattle.std.specs.Prelude.{Option, None, Some}
use Rattle.tor_report.specs.Reports.{IsCutShort}
use Rattle.tor_report.specs.declared.fault.ReportFault.{ReportFault}
use Rattle.tor_report.specs.declared.fault.ReportFault.TheVariants as reports
use Rattle.tor_cli.specs.Status.{of_report_fault}
use Rattle.tor_cli.specs.Streams.{Streams}
use Rattle.tor_cli.specs.make.ChosenFiles.{IsChoice}
use Rattle.tor_cli.specs.scan.Inventory.{IsInventory, IsNoInventory}
use Rattle.tor_cli.specs.scan.ScanText.{scan_text}
use Rattle.tor_cli.specs.scan.Scanning.{StopsScanning, list_of}
use Rattle.tor_cli.specs.declared.fault.Fault.TheVariants.{Resources}
use Rattle.tor_cli.specs.declared.scan.inventory.Inventory.{Inventory}
use Rattle.tor_cli.specs.declared.scan.words.ScanOptions.{ScanOptions}

without_memory : (chosen : Option (List (List (List ℕ)))) → IsNoInventory chosen Resources
without_memory None = tt
without_memory (Some paths) = tt

-- an inventory was found, and what is told of it was not written whole
pub not_told : (options : ScanOptions) (s : Streams) (chosen : Option (List (List (List ℕ)))) (found : Inventory)
    (fault : ReportFault) → IsChoice (list_of options) s.reader s.reader' chosen → IsInventory chosen found
    → IsCutShort (scan_text options.form found) s.writer s.writer' fault
    → StopsScanning options s (of_report_fault fault)
not_told options s chosen found reports.Memory choice inventory same =
    (inr (chosen, choice, without_memory chosen), same)
not_told options s chosen found (reports.Write fault) choice inventory front =
    (chosen, found, choice, inventory, front)
