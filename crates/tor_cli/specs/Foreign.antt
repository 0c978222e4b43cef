-- What the program prints of a torrent in a file of the system. No contract says which bytes a file has, so a clause
-- speaks of some bytes: those that the program took for the file's.
use Rattle.std.specs.Prelude.{◌≡◌, ◌≢◌, ◌≤◌, ℕ, List, Option, length}
use Rattle.std.specs.Io.KnownBytes.{Appends}
use Rattle.tor_bencode.specs.Data.{Data}
use Rattle.tor_check.specs.Valid.{IsRefusedFor}
use Rattle.tor_check.specs.declared.refusal.Refusal.TheVariants.{Memory}
use Rattle.tor_spec.specs.declared.hashes.Hashes.{Hashes}
use Rattle.tor_spec.specs.Output.{IsFront}
use Rattle.tor_report.specs.Told.{IsTorrentWith}
use Rattle.tor_cli.specs.Streams.{IsUntouched, Streams}
use Rattle.tor_source.specs.declared.input.TheConstants.{MAX_INPUT_LENGTH}
use Rattle.tor_cli.specs.declared.fault.Fault.{Fault}
use Rattle.tor_cli.specs.declared.fault.Fault.TheVariants.{Refused, Read, TooLong, Write, Resources}

-- the bytes are a torrent, and the text is its lines (profile)
abbrev pub AreLinesOf : (Data → Hashes → List ℕ) → List ℕ → List ℕ → Type 0
AreLinesOf lines bytes text =
    (root : Data) × (hashes : Hashes) × IsTorrentWith bytes root hashes × (text ≡ lines root hashes)

-- why the bytes are no torrent. Want of memory is no refusal (profile)
abbrev pub IsNoTorrent : List ℕ → Fault → Type 0
IsNoTorrent bytes (Refused refusal) = IsRefusedFor bytes refusal × (refusal ≢ Memory)
IsNoTorrent bytes Resources = Unit {0}
IsNoTorrent bytes other = ⊥

-- some bytes, no more than an input may have, of which this holds
abbrev pub OfSome : (List ℕ → Type 0) → Type 0
OfSome Holds = (bytes : List ℕ) × (length bytes ≤ MAX_INPUT_LENGTH) × Holds bytes

-- the lines of a torrent, of which this holds
abbrev pub TellsOfSome : (Data → Hashes → List ℕ) → (List ℕ → Type 0) → Type 0
TellsOfSome lines Holds = OfSome (λ bytes. (text : List ℕ) × AreLinesOf lines bytes text × Holds text)

-- why the lines of the torrent that these bytes are did not go out whole: they are none, and nothing was written; or a
-- front of the lines was
abbrev pub IsNotTold : (Data → Hashes → List ℕ) → List ℕ → Option (List ℕ) → Option (List ℕ) → Fault → Type 0
IsNotTold lines bytes writer writer' (Write written) =
    (text : List ℕ) × AreLinesOf lines bytes text × IsFront writer writer' written text
IsNotTold lines bytes writer writer' fault = IsNoTorrent bytes fault × (writer' ≡ writer)

-- what is written of the torrent that some bytes are. It is the lines of a torrent, and nothing else (profile)
abbrev pub DoesTell : (Data → Hashes → List ℕ) → Streams → Type 0
DoesTell lines s = (s.reader' ≡ s.reader) × TellsOfSome lines (Appends s.writer s.writer')

-- if this fault stopped it (profile)
abbrev pub StopsTelling : (Data → Hashes → List ℕ) → Streams → Fault → Type 0
StopsTelling lines s (Refused refusal) = OfSome (λ bytes. IsNoTorrent bytes (Refused refusal)) × IsUntouched s
StopsTelling lines s (Read fault) = IsUntouched s
StopsTelling lines s TooLong = IsUntouched s
StopsTelling lines s (Write written) =
    (s.reader' ≡ s.reader) × TellsOfSome lines (IsFront s.writer s.writer' written)
StopsTelling lines s Resources = IsUntouched s
StopsTelling lines s other = ⊥
