-- What `tor plan` does: what it reads and writes, and where a fault stops it.
use Rattle.std.specs.Prelude.{◌≡◌, ◌⊎◌, List, Option, None}
use Rattle.std.specs.declared.io.Error.{Error}
use Rattle.tor_meta.specs.Make.{make_refusal}
use Rattle.tor_meta.specs.Planned.{IsFaultOfLengths, IsPlanOfTold}
use Rattle.tor_meta.specs.declared.order.Order.{Order}
use Rattle.tor_source.specs.Answers.{system_answers}
use Rattle.tor_tree.specs.FileList.{paths_of}
use Rattle.tor_tree.specs.declared.attr.Attr.{Attr}
use Rattle.std.specs.Prelude.{ℕ, length}
use Rattle.tor_cli.specs.make.ChosenFiles.{IsChoice, IsNoChoice}
use Rattle.tor_cli.specs.make.Request.{IsOrderOf, Sends, SendsFront, StopsFinding, file_of, list_of}
use Rattle.tor_cli.specs.Streams.{Streams}
use Rattle.tor_cli.specs.declared.fault.Fault.{Fault}
use Rattle.tor_cli.specs.declared.fault.Fault.TheVariants.{Make, Write}
use Rattle.tor_cli.specs.declared.make.options.MakeOptions.{MakeOptions}
use Rattle.tor_cli.specs.declared.lots.plan_options.PlanOptions.{PlanOptions}

-- the bytes are a plan as asked for, of some files as found. It is that of the order that the options ask for, which is
-- not refused for the files' paths, and of the lengths that the system told (profile)
abbrev pub IsPlanAt : MakeOptions → Option (List (List (List ℕ))) → List ℕ → Type 0
IsPlanAt options chosen plan = (order : Order) × (files : List (List (List ℕ) × Attr))
    × IsOrderOf options chosen order files
    × (make_refusal {F = Error} order (paths_of files) ≡ None)
    × IsPlanOfTold (system_answers (length files)) order files plan

-- a list may choose the files; if it does, it was read before
abbrev pub OfChosen : PlanOptions → Streams → (Option (List (List (List ℕ))) → Type 0) → Type 0
OfChosen options s Holds = (chosen : Option (List (List (List ℕ))))
    × IsChoice (list_of options.torrent) s.reader s.reader' chosen × Holds chosen

-- what is read and written: a plan, and nothing else (profile)
abbrev pub DoesPlan : PlanOptions → Streams → Type 0
DoesPlan options s = OfChosen options s (λ chosen. (plan : List ℕ) × IsPlanAt options.torrent chosen plan
    × Sends (file_of options.torrent) s.writer s.writer' plan)

-- a plan is made of lengths: no fault of a byte stops it, and no file is seen to change (profile)
abbrev pub IsOfLengths : Fault → Type 0
IsOfLengths (Make error) = IsFaultOfLengths error
IsOfLengths fault = Unit {0}

-- if this fault stopped it once the list was read
abbrev pub StopsPlanned : PlanOptions → Streams → Fault → Option (List (List (List ℕ))) → Type 0
StopsPlanned options s (Write written) chosen =
    (StopsFinding options.torrent chosen (Write written) × (s.writer' ≡ s.writer))
    ⊎ ((plan : List ℕ) × IsPlanAt options.torrent chosen plan
    × SendsFront (file_of options.torrent) s.writer s.writer' written plan)
StopsPlanned options s fault chosen =
    StopsFinding options.torrent chosen fault × IsOfLengths fault × (s.writer' ≡ s.writer)

-- if this fault stopped it: it is of the list, or came after it (profile)
abbrev pub StopsPlanning : PlanOptions → Streams → Fault → Type 0
StopsPlanning options s fault =
    (IsNoChoice (list_of options.torrent) s.reader s.reader' fault × (s.writer' ≡ s.writer))
    ⊎ OfChosen options s (StopsPlanned options s fault)
