-- What was told, as bytes.
use Rattle.std.specs.Prelude.{◌≡◌, ◌⊎◌, ℕ, List, Result, Ok, Err, Vec}
use Rattle.std.specs.declared.alloc.Global.{Global}
use Rattle.serde_json.specs.Data.{object}
use Rattle.serde_json.specs.Written.{compact_text}
use Rattle.tor_bencode.specs.RefView.{view}
use Rattle.tor_bencode.specs.declared.item_ref.ItemRef.{ItemRef}
use Rattle.tor_check.specs.declared.refusal.Refusal.{Refusal}
use Rattle.tor_check.specs.declared.refusal.Refusal.TheVariants.{Memory}
use Rattle.tor_report.specs.Records.{check_members}
use Rattle.tor_report.specs.declared.judged.Judged.{Judged}
use Rattle.tor_c.specs.Reports.{IsReported}
use Rattle.tor_c.specs.declared.outcome.PloverOutcome.{PloverOutcome}

-- the bytes of a text that is told
abbrev pub told_bytes : Result (Vec ℕ Global) Refusal → Result (List ℕ) Refusal
told_bytes (Ok text) = Ok text.items
told_bytes (Err refusal) = Err refusal

-- the object of a torrent with this tree, which was judged
unfoldable pub object_of : ItemRef → Judged → List ℕ
object_of root judged = compact_text (object (check_members (view root) judged.torrent judged.hashes))

-- this text is reported, or that memory was refused
abbrev pub IsObjectReport : List ℕ → List ℕ → List ℕ → PloverOutcome → ℕ → Type 0
IsObjectReport text room room' outcome answer = (told : Result (List ℕ) Refusal)
    × ((told ≡ Ok text) ⊎ (told ≡ Err Memory)) × IsReported told room room' outcome answer
