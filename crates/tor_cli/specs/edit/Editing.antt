-- What `tor edit` does. No contract says which bytes a file of the system has, so a clause speaks of some bytes: those
-- that the program took for the file's.
use Rattle.std.specs.Prelude.{◌≡◌, ℕ, List, Option, option_map}
use Rattle.tor_edit.specs.Tracker.{IsWithTracker}
use Rattle.tor_cli.specs.Foreign.{IsNoTorrent, OfSome}
use Rattle.tor_cli.specs.make.Request.{Sends, SendsFront}
use Rattle.tor_cli.specs.Streams.{IsUntouched, Streams}
use Rattle.tor_cli.specs.declared.fault.Fault.{Fault}
use Rattle.tor_cli.specs.declared.fault.Fault.TheVariants.{Read, Refused, Resources, TooLong, Write}
use Rattle.tor_cli.specs.declared.edit.words.EditOptions.{EditOptions}

-- the tracker that the torrent is to have, if it is to have one
abbrev pub tracker_of : EditOptions → Option (List ℕ)
tracker_of options = option_map (λ url. url.now) options.tracker

-- the file that the torrent goes to, if it is not the writer
abbrev pub file_of : EditOptions → Option (List ℕ)
file_of options = option_map (λ place. place.now) options.out

-- the torrent that some bytes are, with this tracker, of which this holds
abbrev pub EditsSome : EditOptions → (List ℕ → Type 0) → Type 0
EditsSome options Holds =
    OfSome (λ bytes. (edited : List ℕ) × IsWithTracker bytes (tracker_of options) edited × Holds edited)

-- what is written: the torrent with this tracker, or with none, and nothing else (profile)
abbrev pub DoesEdit : EditOptions → Streams → Type 0
DoesEdit options s = (s.reader' ≡ s.reader) × EditsSome options (Sends (file_of options) s.writer s.writer')

-- if this fault stopped it (profile)
abbrev pub StopsEditing : EditOptions → Streams → Fault → Type 0
StopsEditing options s (Refused refusal) = OfSome (λ bytes. IsNoTorrent bytes (Refused refusal)) × IsUntouched s
StopsEditing options s (Read fault) = IsUntouched s
StopsEditing options s TooLong = IsUntouched s
StopsEditing options s (Write written) =
    (s.reader' ≡ s.reader) × EditsSome options (SendsFront (file_of options) s.writer s.writer' written)
StopsEditing options s Resources = IsUntouched s
StopsEditing options s other = ⊥
