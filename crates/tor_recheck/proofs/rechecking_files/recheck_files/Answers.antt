-- the hashes, the lengths, and what these tell of the files
use Rattle.tor_recheck.proofs.Names.{◌≡◌, ◌∙◌, ℕ, List, Option, ap, ap₂, length, map, subst, sym, contents_in, all_held}
use Rattle.tor_recheck.proofs.Names.{Bool, all_judged, all_merkle_judged, AreAmong, cond-false, file_spans, files_found}
use Rattle.tor_recheck.proofs.Names.{has_v2}
use Rattle.tor_recheck.proofs.Names.{AreWithin, FileFound, HasTold}
use Rattle.tor_recheck.proofs.HeldPieces.{judged_is_held}
use Rattle.tor_recheck.proofs.FoundLengths.{lengths_kept}
use Rattle.tor_recheck.proofs.Rechecked.{count_of_judged, judged_is_verified}
use Rattle.tor_view.proofs.SpanSteps.{spans_are_counted}
use Rattle.tor_recheck.proofs.Within.{held_within, judged_within, right_are_held, some_within}
use Rattle.tor_recheck.proofs.rechecking_files.recheck_files.Goals as goal

pub returns-clause-found : goal.returns-clause-found
returns-clause-found g c = λ how facts steady.
    let view = c.args.torrent.now in
    let cut = c.in-Ok.ensures.cut in
    let contents = contents_in facts (length view.files) in
    let hashes = c.in-Ok.found.hashes in
    let found = c.in-Ok.ensures.hashed how facts steady in
    let bits = c.in_ok-bits.ensures
    ∙ judged_is_verified view contents cut hashes found.0 in
    let held = judged_is_held view contents cut hashes found.0 in
    (bits, c.in_ok-files.ensures.found ∙ ap₂ (files_found view) found.1 held, found.2)

pub returns-clause-counted : goal.returns-clause-counted
returns-clause-counted g c =
    let view = c.args.torrent.now in (
      ap length c.in_ok-bits.ensures
          ∙ count_of_judged view c.in-Ok.found.hashes
          ∙ c.in-Ok.ensures.counted.0,
      c.in_ok-files.ensures.counted,
    )

pub returns-clause-told : goal.returns-clause-told
returns-clause-told g c =
    let view = c.args.torrent.now in
    let lengths = c.in-Ok.found.lengths.items in
    let count : length lengths ≡ length (file_spans view) =
    c.in-Ok.ensures.counted.1 ∙ sym (spans_are_counted view c.in-Ok.ensures.cut) in
    let told = ap (map (λ (file : FileFound). file.there)) c.in_ok-files.ensures.found
    ∙ lengths_kept view lengths (all_held view c.in-Ok.found.hashes) count in
    subst (λ (sizes : List (Option ℕ)). HasTold (g.S.Source.answers c.args.source.now) sizes) (sym told)
    c.in-Ok.ensures.told

pub returns-clause-there : goal.returns-clause-there
returns-clause-there g c =
    let view = c.args.torrent.now in
    let hashes = c.in-Ok.found.hashes in
    let lengths = c.in-Ok.found.lengths.items in
    let held = all_held view hashes in
    let count : length lengths ≡ length (file_spans view) =
    c.in-Ok.ensures.counted.1 ∙ sym (spans_are_counted view c.in-Ok.ensures.cut) in
    let told = ap (map (λ (file : FileFound). file.there)) c.in_ok-files.ensures.found
    ∙ lengths_kept view lengths held count in
    let right : c.in_ok-bits.bits ≡ all_judged view hashes = c.in_ok-bits.ensures in
    record {
      held = held;
      files = c.in_ok-files.ensures.found ∙ ap (λ (sizes : List (Option ℕ)). files_found view sizes held) (sym told);
      right_held = subst (λ (bits : List Bool). AreAmong bits held) (sym right) (right_are_held view hashes);
      by_bits = λ none. cond-false (has_v2 view.kind) (all_merkle_judged view hashes) (all_judged view hashes) none
          ∙ sym right;
      held_within = subst (λ (sizes : List (Option ℕ)). AreWithin view sizes held) (sym told)
          (held_within view lengths hashes (some_within view lengths hashes c.in-Ok.ensures.there));
      right_within = subst (λ (sizes : List (Option ℕ)). AreWithin view sizes c.in_ok-bits.bits) (sym told)
          (subst (λ (bits : List Bool). AreWithin view lengths bits)
          (sym right) (judged_within view lengths hashes (some_within view lengths hashes c.in-Ok.ensures.there)));
    }
