-- What `tor scan` does: what it reads and writes, and where a fault stops it.
use Rattle.std.specs.Prelude.{◌≡◌, ◌≢◌, ◌⊎◌, [], ℕ, List, Option, option_map}
use Rattle.std.specs.Io.KnownBytes.{Appends}
use Rattle.tor_spec.specs.Output.{IsFront}
use Rattle.tor_cli.specs.Streams.{Streams}
use Rattle.tor_cli.specs.make.ChosenFiles.{IsChoice, IsNoChoice}
use Rattle.tor_cli.specs.scan.Inventory.{IsInventory, IsNoInventory}
use Rattle.tor_cli.specs.scan.ScanText.{scan_text}
use Rattle.tor_cli.specs.declared.answer.Answer.{Answer}
use Rattle.tor_cli.specs.declared.answer.Answer.TheVariants.{No, Yes}
use Rattle.tor_cli.specs.declared.fault.Fault.{Fault}
use Rattle.tor_cli.specs.declared.fault.Fault.TheVariants.{Write}
use Rattle.tor_cli.specs.declared.scan.inventory.Inventory.{Inventory}
use Rattle.tor_cli.specs.declared.scan.words.ScanOptions.{ScanOptions}

-- the answer is yes exactly if nothing is refused
abbrev pub IsAnswerOf : Inventory → Answer → Type 0
IsAnswerOf found Yes = found.refused.items ≡ []
IsAnswerOf found No = found.refused.items ≢ []

-- the word for the list that chooses files, if there is one
abbrev pub list_of : ScanOptions → Option (List ℕ)
list_of options = option_map (λ word. word.now) options.list

-- an inventory of the place was found, of which a list may choose the files, and this holds of it
abbrev pub FindsSome : ScanOptions → Streams → (Inventory → Type 0) → Type 0
FindsSome options s Holds = (chosen : Option (List (List (List ℕ)))) × (found : Inventory)
    × IsChoice (list_of options) s.reader s.reader' chosen × IsInventory chosen found × Holds found

-- what is read and written with this answer: the text of an inventory, and nothing else (profile)
abbrev pub DoesScan : ScanOptions → Answer → Streams → Type 0
DoesScan options answer s = FindsSome options s
    (λ found. IsAnswerOf found answer × Appends s.writer s.writer' (scan_text options.form found))

-- why nothing is printed: of the list, or of the place after it
abbrev pub IsNotScanned : ScanOptions → Streams → Fault → Type 0
IsNotScanned options s fault = IsNoChoice (list_of options) s.reader s.reader' fault
    ⊎ ((chosen : Option (List (List (List ℕ)))) × IsChoice (list_of options) s.reader s.reader' chosen
    × IsNoInventory chosen fault)

-- if this fault stopped it (profile)
abbrev pub StopsScanning : ScanOptions → Streams → Fault → Type 0
StopsScanning options s (Write written) =
    FindsSome options s (λ found. IsFront s.writer s.writer' written (scan_text options.form found))
StopsScanning options s fault = IsNotScanned options s fault × (s.writer' ≡ s.writer)
