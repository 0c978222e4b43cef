-- The hashes of the torrent that the bytes are, or why they are none.
use Rattle.std.proofs.Common.{◌∙◌, inr, refl}
use Rattle.std.specs.Prelude.{Ok, Err}
use Rattle.tor_c.specs.Reports.{hashes_for_c}
use Rattle.tor_c.proofs.NotRefused.{memory_number}
use Rattle.tor_c.proofs.hashes.plover_info_hashes.Goals as goal

pub returns-in-Ok-clause-told : goal.returns-in-Ok-clause-told
returns-in-Ok-clause-told c =
    let (root, described, torrent) = c.in-Ok.ensures.accepted in
    let hashes = c.in-Ok.judged.hashes in
    (Ok (hashes_for_c hashes), (root, hashes, torrent, refl), refl, c.of_text.ensures, c.of.ensures)

pub returns-in-Err-clause-told : goal.returns-in-Err-clause-told
returns-in-Err-clause-told c =
    (Err c.in-Err.refusal, c.in-Err.ensures.refused, c.refusal_number.ensures, c.of_refusal.ensures, refl)

pub returns-in-Err-clause-only : goal.returns-in-Err-clause-only
returns-in-Err-clause-only c = λ valid.
    inr (c.refusal_number.ensures ∙ memory_number c.args.torrent.now valid c.in-Err.refusal c.in-Err.ensures.refused)
