-- What a run of the program does: what it reads and writes for what the words ask for, and with which status it ends.
use Rattle.std.specs.Prelude.{◌≡◌, ◌⊎◌, ◌≤◌, ◌≢◌, ℕ, List, string_bytes}
use Rattle.std.specs.Io.KnownBytes.{Appends}
use Rattle.tor_spec.specs.Output.{IsFront}
use Rattle.tor_cli.specs.Foreign.{DoesTell, StopsTelling}
use Rattle.tor_cli.specs.Status.{status_of}
use Rattle.tor_cli.specs.Streams.{IsUntouched, Streams}
use Rattle.tor_cli.specs.Words.{Asks, IsOfWords}
use Rattle.tor_cli.specs.check.Telling.{lines_of}
use Rattle.tor_cli.specs.edit.Editing.{DoesEdit, StopsEditing}
use Rattle.tor_cli.specs.lots.Lots.{DoesJoin, DoesLot, StopsJoining, StopsLot}
use Rattle.tor_cli.specs.lots.Planning.{DoesPlan, StopsPlanning}
use Rattle.tor_cli.specs.make.Request.{DoesMake, StopsMake}
use Rattle.tor_cli.specs.proof.Proving.{DoesProve, DoesVerify, StopsProving, StopsVerifying}
use Rattle.tor_cli.specs.recheck.Extra.{DoesExtra, StopsExtra}
use Rattle.tor_cli.specs.recheck.LotRecheck.{DoesLotRecheck, StopsLotRecheck}
use Rattle.tor_cli.specs.recheck.Recheck.{DoesRecheck, StopsRechecking}
use Rattle.tor_cli.specs.scan.Scanning.{DoesScan, StopsScanning}
use Rattle.tor_cli.specs.declared.answer.Answer.{Answer}
use Rattle.tor_cli.specs.declared.answer.Answer.TheVariants.{No, Yes}
use Rattle.tor_cli.specs.declared.check.telling.Telling.TheVariants.{Link}
use Rattle.tor_cli.specs.declared.command.Request.{Request}
use Rattle.tor_cli.specs.declared.command.Request.TheVariants.{Check, Magnet, Prove, Show, Verify}
use Rattle.tor_cli.specs.declared.command.Request.TheVariants.{Edit as ToEdit, Join as ToJoin, Lot as ToLot, Make as ToMake}
use Rattle.tor_cli.specs.declared.command.Request.TheVariants.{Plan as ToPlan, Recheck as ToRecheck, Scan as ToScan}
use Rattle.tor_cli.specs.declared.command.Request.TheVariants.{Extra as ToExtra, RecheckLot as ToRecheckLot}
use Rattle.tor_cli.specs.declared.fault.Fault.{Fault}
use Rattle.tor_cli.specs.declared.fault.Fault.TheVariants.{Write}

-- what was asked for was done
abbrev pub IsDone : Request → Streams → Type 0
IsDone (Show text) s = (s.reader' ≡ s.reader) × Appends s.writer s.writer' (string_bytes text)
IsDone (ToMake options) s = DoesMake options s
IsDone (ToPlan options) s = DoesPlan options s
IsDone (ToLot options) s = DoesLot options s
IsDone (ToJoin options) s = DoesJoin options s
IsDone (ToEdit options) s = DoesEdit options s
IsDone (ToScan options) s = DoesScan options Yes s
IsDone (Check options) s = DoesTell (lines_of options.telling) s
IsDone (Magnet options) s = DoesTell (lines_of (Link options.words)) s
IsDone (Prove options) s = DoesProve options s
IsDone (Verify options) s = DoesVerify options Yes s
IsDone (ToRecheck options) s = DoesRecheck options Yes s
IsDone (ToRecheckLot options) s = DoesLotRecheck options Yes s
IsDone (ToExtra options) s = DoesExtra options Yes s

-- what is read and written for a request, with this answer. Only a question is ever answered by no (profile)
abbrev pub Does : Request → Answer → Streams → Type 0
Does request Yes s = IsDone request s
Does (ToScan options) No s = DoesScan options No s
Does (Verify options) No s = DoesVerify options No s
Does (ToRecheck options) No s = DoesRecheck options No s
Does (ToRecheckLot options) No s = DoesLotRecheck options No s
Does (ToExtra options) No s = DoesExtra options No s
Does request No s = ⊥

-- if this fault stopped it (profile)
abbrev pub Stops : Request → Streams → Fault → Type 0
Stops (Show text) s (Write written) =
    (s.reader' ≡ s.reader) × IsFront s.writer s.writer' written (string_bytes text)
Stops (Show text) s other = ⊥
Stops (ToMake options) s fault = StopsMake options s fault
Stops (ToPlan options) s fault = StopsPlanning options s fault
Stops (ToLot options) s fault = StopsLot options s fault
Stops (ToJoin options) s fault = StopsJoining options s fault
Stops (ToEdit options) s fault = StopsEditing options s fault
Stops (ToScan options) s fault = StopsScanning options s fault
Stops (Check options) s fault = StopsTelling (lines_of options.telling) s fault
Stops (Magnet options) s fault = StopsTelling (lines_of (Link options.words)) s fault
Stops (Prove options) s fault = StopsProving options s fault
Stops (Verify options) s fault = StopsVerifying options s fault
Stops (ToRecheck options) s fault = StopsRechecking options s fault
Stops (ToRecheckLot options) s fault = StopsLotRecheck options s fault
Stops (ToExtra options) s fault = StopsExtra options s fault

-- what the words ask for was done with this answer
abbrev pub DoesAsked : List (List ℕ) → Streams → Answer → Type 0
DoesAsked words s answer = (request : Request) × Asks words request × Does request answer s

-- this fault is of the words, or what they ask for was stopped at it
abbrev pub StopsAsked : List (List ℕ) → Streams → Fault → Type 0
StopsAsked words s fault =
    (IsOfWords fault × IsUntouched s) ⊎ ((request : Request) × Asks words request × Stops request s fault)

-- why the status is not 0: the answer is no, or a fault stopped it
abbrev pub EndsAsked : List (List ℕ) → Streams → ℕ → Type 0
EndsAsked words s status = ((status ≡ 1) × DoesAsked words s No)
    ⊎ ((fault : Fault) × (status ≡ status_of fault) × StopsAsked words s fault)

-- what a run over these words did, which ended with this status
pub record IsRunOf (words : List (List ℕ)) (s : Streams) (status : ℕ) : Type 0 where
  pub within : status ≤ 4
  pub done : status ≡ 0 → DoesAsked words s Yes
  pub stopped : status ≢ 0 → EndsAsked words s status
