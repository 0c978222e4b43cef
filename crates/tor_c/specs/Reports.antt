-- What the exports answer of the bytes of a torrent, what they tell beside the answer, and what they write.
use Rattle.std.specs.Prelude.{◌≡◌, ◌⊎◌, ℕ, List, ◌++◌, length, drop, nat_le, if◌then◌else◌}
use Rattle.std.specs.Prelude.{is_some, unwrap_or, replicate, Result, Ok, Err}
use Rattle.serde_json.specs.Data.{object}
use Rattle.serde_json.specs.Written.{compact_text}
use Rattle.tor_bencode.specs.Data.{Data}
use Rattle.tor_check.specs.Valid.{IsRefusedFor}
use Rattle.tor_check.specs.declared.refusal.Refusal.{Refusal}
use Rattle.tor_check.specs.declared.refusal.Refusal.TheVariants as refusals
use Rattle.tor_report.specs.Told.{IsTorrentWith}
use Rattle.tor_report.specs.Records.{check_members}
use Rattle.tor_spec.specs.Hashes.{magnet_link}
use Rattle.tor_spec.specs.declared.hashes.Hashes.{Hashes}
use Rattle.tor_spec.specs.valid.View.{view_of}
use Rattle.tor_c.specs.Numbers.{fault_number, refusal_number}
use Rattle.tor_c.specs.declared.TheConstants.{ACCEPTED, MEMORY, NO_ROOM}
use Rattle.tor_c.specs.declared.hashes.PloverHashes.{PloverHashes}
use Rattle.tor_c.specs.declared.outcome.PloverOutcome.{PloverOutcome}

-- what is told of bytes: something of the torrent that they are, from its tree and its info hashes, or why they are
-- none (profile)
abbrev pub IsToldOf : {T : Type 0} → (Data → Hashes → T) → List ℕ → Result T Refusal → Type 0
IsToldOf tell bytes (Ok told) =
    (root : Data) × (hashes : Hashes) × IsTorrentWith bytes root hashes × (told ≡ tell root hashes)
IsToldOf tell bytes (Err refusal) = IsRefusedFor bytes refusal

-- the object that `tor check --json` prints, without its line feed (RFC 8259; profile)
abbrev pub check_text : Data → Hashes → List ℕ
check_text root hashes = compact_text (object (check_members root (view_of root) hashes))

-- the link that `tor magnet` prints, without its line feed (BEP 9, "magnet URI format"; profile)
abbrev pub magnet_text : Data → Hashes → List ℕ
magnet_text root hashes = magnet_link hashes

-- beside a text of so many bytes
abbrev pub of_text : ℕ → PloverOutcome
of_text size = record { length = size; offset = 0; fault = 0 }

-- beside a refusal: where the first fault of the bencode is, and its number
abbrev pub of_refusal : Refusal → PloverOutcome
of_refusal (refusals.Bencode fault offset) = record { length = 0; offset = offset; fault = fault_number fault }
of_refusal other = of_text 0

-- the answer, for a text that is told into a room of so many bytes (profile)
abbrev pub report_answer : ℕ → Result (List ℕ) Refusal → ℕ
report_answer room (Ok text) = if nat_le (length text) room then ACCEPTED else NO_ROOM
report_answer room (Err refusal) = refusal_number refusal

-- what is told beside it: the length of the text, also if there is no room for it (profile)
abbrev pub report_outcome : Result (List ℕ) Refusal → PloverOutcome
report_outcome (Ok text) = of_text (length text)
report_outcome (Err refusal) = of_refusal refusal

-- what the room has afterwards: the text in front if there is room for it, else what it had (profile)
abbrev pub reported : List ℕ → Result (List ℕ) Refusal → List ℕ
reported room (Ok text) = if nat_le (length text) (length room) then text ++ drop (length text) room else room
reported room (Err refusal) = room

-- a text is told into a room, and answer and outcome are those of it
pub record IsReported (told : Result (List ℕ) Refusal) (room room' : List ℕ) (outcome : PloverOutcome) (answer : ℕ)
    : Type 0 where
  pub answered : answer ≡ report_answer (length room) told
  pub beside : outcome ≡ report_outcome told
  pub written : room' ≡ reported room told

-- the text that is told of a torrent, or why the bytes are none, is told into the room (profile)
abbrev pub IsReportOf : (Data → Hashes → List ℕ) → List ℕ → List ℕ → List ℕ → PloverOutcome → ℕ → Type 0
IsReportOf tell bytes room room' outcome answer = (told : Result (List ℕ) Refusal)
    × IsToldOf tell bytes told × IsReported told room room' outcome answer

-- the bytes are not refused. Memory may be, or the room be too small
abbrev pub IsNotRefused : ℕ → Type 0
IsNotRefused answer = (answer ≡ ACCEPTED) ⊎ (answer ≡ NO_ROOM) ⊎ (answer ≡ MEMORY)

-- info hashes as C has them: zeros stand for one that there is not (profile)
abbrev pub hashes_for_c : Hashes → PloverHashes
hashes_for_c hashes = record {
  has_v1 = is_some hashes.v1;
  v1 = unwrap_or hashes.v1 (replicate 20 0);
  has_v2 = is_some hashes.v2;
  v2 = unwrap_or hashes.v2 (replicate 32 0);
}

-- the answer, for info hashes that are told
abbrev pub hashes_answer : Result PloverHashes Refusal → ℕ
hashes_answer (Ok hashes) = ACCEPTED
hashes_answer (Err refusal) = refusal_number refusal

-- what is told beside them
abbrev pub hashes_outcome : Result PloverHashes Refusal → PloverOutcome
hashes_outcome (Ok hashes) = of_text 0
hashes_outcome (Err refusal) = of_refusal refusal

-- the hashes afterwards: those that are told, else as before
abbrev pub hashes_told : PloverHashes → Result PloverHashes Refusal → PloverHashes
hashes_told before (Ok hashes) = hashes
hashes_told before (Err refusal) = before

-- the info hashes that are told of bytes: those of the torrent that they are, or as before. Answer and outcome tell
-- why they are none (profile)
abbrev pub AreHashesOf : List ℕ → PloverHashes → PloverHashes → PloverOutcome → ℕ → Type 0
AreHashesOf bytes hashes hashes' outcome answer = (told : Result PloverHashes Refusal)
    × IsToldOf (λ root hashes. hashes_for_c hashes) bytes told × (answer ≡ hashes_answer told)
    × (outcome ≡ hashes_outcome told) × (hashes' ≡ hashes_told hashes told)
