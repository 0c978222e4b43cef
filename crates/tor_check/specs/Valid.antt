-- What bytes describe that are a torrent, and why others are none.
use Rattle.std.specs.Prelude.{◌≡◌, ℕ, List, Some}
use Rattle.tor_bencode.specs.Data.{Data}
use Rattle.tor_bencode.specs.Fault.{IsFaultAt}
use Rattle.tor_bencode.specs.Lawful.{IsLawful}
use Rattle.tor_bencode.specs.Spelling.{spelling}
use Rattle.tor_bencode.specs.declared.error.BenError.{BenError}
use Rattle.tor_bencode.specs.declared.error.BenError.TheVariants as errors
use Rattle.tor_check.specs.Refusals.{refusal_for}
use Rattle.tor_check.specs.declared.refusal.Refusal.{Refusal}
use Rattle.tor_check.specs.declared.refusal.Refusal.TheVariants as refusals
use Rattle.tor_spec.specs.valid.Conditions.{Condition, IsTorrentOf, refusal_of}
use Rattle.tor_spec.specs.valid.View.{View, view_of}

-- the refusal of the same fault at the same offset
abbrev pub of_bencode : BenError → Refusal → Type 0
of_bencode (errors.Refused fault offset) refusal = refusal ≡ refusals.Bencode fault offset
of_bencode errors.Memory refusal = refusal ≡ refusals.Memory

-- the bytes are a torrent, and this is what it describes (profile)
abbrev pub IsTold : List ℕ → View → Type 0
IsTold bytes view = (root : Data) × IsTorrentOf root bytes × (view ≡ view_of root)

-- the bytes spell a tree, of which this condition is the first that holds
pub record IsRefused (bytes : List ℕ) (refusal : Refusal) : Type 0 where
  pub root : Data
  pub lawful : IsLawful root
  pub spelled : bytes ≡ spelling root
  pub condition : Condition
  pub first : refusal_of root ≡ Some condition
  pub named : refusal ≡ refusal_for condition

-- why bytes are no torrent: they spell no tree, or the tree is none. Or memory was refused (profile)
abbrev pub IsRefusedFor : List ℕ → Refusal → Type 0
IsRefusedFor bytes (refusals.Bencode fault offset) = IsFaultAt bytes fault offset
IsRefusedFor bytes refusals.Memory = Unit {0}
IsRefusedFor bytes other = IsRefused bytes other
