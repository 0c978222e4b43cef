-- The answers to bytes that are a torrent.
use Rattle.std.proofs.Common.{◌≡◌, refl, ap, inl, inr, ℕ, Bool, true, false, List, length, nat_le, cond}
use Rattle.std.proofs.Common.{Result, Ok, Err}
use Rattle.tor_bencode.specs.Data.{Data}
use Rattle.tor_check.specs.Valid.{IsRefusedFor}
use Rattle.tor_check.specs.declared.refusal.Refusal.{Refusal}
use Rattle.tor_spec.specs.declared.hashes.Hashes.{Hashes}
use Rattle.tor_spec.specs.valid.Conditions.{IsValid}
use Rattle.tor_c.proofs.Judged.{memory_alone}
use Rattle.tor_c.specs.Numbers.{refusal_number}
use Rattle.tor_c.specs.Reports.{IsNotRefused, IsToldOf, report_answer}
use Rattle.tor_c.specs.declared.TheConstants.{ACCEPTED, MEMORY, NO_ROOM}

-- the number of what they may be refused for
pub memory_number : (bytes : List ℕ) → IsValid bytes → (refusal : Refusal) → IsRefusedFor bytes refusal
    → refusal_number refusal ≡ MEMORY
memory_number bytes valid refusal why = ap refusal_number (memory_alone bytes valid refusal why)

with_room : (fits : Bool) → IsNotRefused (cond fits ACCEPTED NO_ROOM)
with_room true = inl refl
with_room false = inr (inl refl)

pub not_refused : (tell : Data → Hashes → List ℕ) (bytes : List ℕ) → IsValid bytes
    → (told : Result (List ℕ) Refusal) → IsToldOf tell bytes told → (room : ℕ) → IsNotRefused (report_answer room told)
not_refused tell bytes valid (Ok text) told room = with_room (nat_le (length text) room)
not_refused tell bytes valid (Err refusal) why room = inr (inr (memory_number bytes valid refusal why))
