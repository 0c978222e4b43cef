-- The files so far, one more, and all of them.
use Rattle.std.proofs.Common.{◌∙◌, ap, length, subst, ℕ, List, sym, take}
use Rattle.std.proofs.lemmas.List.{length_push}
use Rattle.std.proofs.lemmas.Slice.Zip.{zip_end, zip_turn}
use Rattle.std.specs.Iterator.Adapters.{zip_first, zip_second}
use Rattle.std.specs.List.{flat_map, zip}
use Rattle.std.specs.Slice.Iter.{iter_rest}
use Rattle.tor_report.proofs.ProvedLaws.{are_pairs, fault_after, flat_all, flat_more, flat_rest, is_pair, pair_is}
use Rattle.tor_report.proofs.ProvedLaws.{puts_both}
use Rattle.tor_report.specs.Put.{Puts}
use Rattle.tor_cli.specs.recheck.FoundFiles.{told_of_pair}
use Rattle.tor_cli.proofs.recheck.found_text.put_files.Goals as goal

pub files-preserved : goal.files-preserved
files-preserved g c =
    let found = c.args.found.now in
    let files = c.args.files.now in
    let n = length c.files.yielded in
    let begun = c.into_iter-found-iterator.ensures.into_iter_gives in
    let first =
    ap (λ z. iter_rest (zip_first z)) begun ∙ ap iter_rest c.zip-found-items.ensures.first ∙ c.iter.ensures.rest in
    let second = ap (λ z. iter_rest (zip_second z)) begun ∙ c.zip-found-items.ensures.second.0 in
    let turn =
    zip_turn _ _ c.files.yielded c.into_iter-found-iterator.result c.files.found-iterator c.next.new.self _
    first second c.files.yielded_by _ c.in-Some.is c.next.ensures.steps in
    let within = is_pair found files n turn.0 turn.1 in
    let pair = pair_is found files n c.in-Some.found.now c.in-Some.file.now turn.0 turn.1 (turn.2 _) (turn.3 _) in
    let more = length_push c.files.yielded (c.in-Some.found, c.in-Some.file) in
    let tell = told_of_pair c.args.listing in
    subst
    (λ (xs : List ℕ). Puts g.S.Sink.took xs c.args.out.now c.args.buffer.now c.put_file.new.out c.put_file.new.buffer)
    (flat_more tell (zip found files) n (c.in-Some.found.now, c.in-Some.file.now) within pair
    ∙ ap (λ k. flat_map tell (take k (zip found files))) (sym more))
    (puts_both _ _ _ _ _ _ _ _ c.files.invariant (rw c.file.ensures at c.in_ok-put_file.ensures.put))

pub returns-in_err-put_file-clause-stopped : goal.returns-in_err-put_file-clause-stopped
returns-in_err-put_file-clause-stopped g c =
    let found = c.args.found.now in
    let files = c.args.files.now in
    let n = length c.files.yielded in
    let begun = c.into_iter-found-iterator.ensures.into_iter_gives in
    let first =
    ap (λ z. iter_rest (zip_first z)) begun ∙ ap iter_rest c.zip-found-items.ensures.first ∙ c.iter.ensures.rest in
    let second = ap (λ z. iter_rest (zip_second z)) begun ∙ c.zip-found-items.ensures.second.0 in
    let turn =
    zip_turn _ _ c.files.yielded c.into_iter-found-iterator.result c.files.found-iterator c.next.new.self _
    first second c.files.yielded_by _ c.in-Some.is c.next.ensures.steps in
    let within = is_pair found files n turn.0 turn.1 in
    let pair = pair_is found files n c.in-Some.found.now c.in-Some.file.now turn.0 turn.1 (turn.2 _) (turn.3 _) in
    fault_after g.S.Sink.lawful _ _ _ _ _ _ _ _ _ _ _ c.from_residual.ensures
    (flat_rest (told_of_pair c.args.listing) (zip found files) n (c.in-Some.found.now, c.in-Some.file.now) within pair)
    c.files.invariant (rw c.file.ensures at c.in_err-put_file.ensures.stopped)

pub returns-clause-put : goal.returns-clause-put
returns-clause-put g c =
    let found = c.args.found.now in
    let files = c.args.files.now in
    let begun = c.into_iter-found-iterator.ensures.into_iter_gives in
    let first =
    ap (λ z. iter_rest (zip_first z)) begun ∙ ap iter_rest c.zip-found-items.ensures.first ∙ c.iter.ensures.rest in
    let second = ap (λ z. iter_rest (zip_second z)) begun ∙ c.zip-found-items.ensures.second.0 in
    let end =
    zip_end _ _ c.files.yielded c.into_iter-found-iterator.result c.files.found-iterator c.next.new.self _
    first second c.files.yielded_by c.in-None.is c.next.ensures.steps in
    subst
    (λ (xs : List ℕ). Puts g.S.Sink.took xs c.args.out.now c.args.buffer.now c.files.out c.files.buffer)
    (flat_all (told_of_pair c.args.listing) (zip found files) (length c.files.yielded) (are_pairs found files _ end))
    c.files.invariant
