-- by version 2, where the torrent has it
use Rattle.tor_recheck.proofs.Names.{◌≡◌, ◌∙◌, IfOk, List, ap, ap₂, cond-true, sym, subst, all_held, all_judged}
use Rattle.tor_recheck.proofs.Names.{all_merkle_judged, FileFound, files_found, has_v2}
use Rattle.tor_recheck.proofs.rechecking_files.files_by.Goals as goal

pub returns-clause-found : goal.returns-clause-found
returns-clause-found c =
    let view = c.args.torrent.now in
    let hashes = c.args.found.now.hashes in
    let two = sym (c.has_v2.ensures ∙ ap has_v2 c.kind.ensures) ∙ c.if-not-has_v2.false in
    let held : c.in_ok-held.held ≡ all_held view hashes =
    c.in_ok-held.ensures
    ∙ sym (cond-true (has_v2 view.kind) (all_merkle_judged view hashes) (all_judged view hashes) two) in
    subst (λ (all : List FileFound). IfOk c.files_of-2.result (λ files. files.items ≡ all))
    (ap₂ (files_found view) c.deref-2.ensures.value held) c.files_of-2.ensures.found
