-- The files so far, and one more.
use Rattle.std.proofs.Common.{◌∙◌, ap, length, subst, ℕ, List, sym, take}
use Rattle.std.proofs.lemmas.List.{length_push}
use Rattle.std.proofs.lemmas.Slice.Zip.{zip_end, zip_turn}
use Rattle.std.specs.Iterator.Adapters.{zip_first, zip_second}
use Rattle.std.specs.List.{flat_map, zip}
use Rattle.std.specs.Slice.Iter.{iter_rest}
use Rattle.tor_report.specs.Put.{Puts}
use Rattle.tor_report.specs.Records.{placed_data}
use Rattle.tor_report.specs.steps.Members.{item_after}
use Rattle.tor_report.proofs.Faults.{fault_after}
use Rattle.tor_report.proofs.Putting.{puts_both}
use Rattle.tor_report.proofs.Texts.{flat_all, flat_more, flat_rest}
use Rattle.tor_report.proofs.ZipTexts.{are_pairs, is_pair, pair_is}
use Rattle.tor_report.proofs.buffer.Buffer.put_other_files.Goals as goal

pub files-preserved : goal.files-preserved
files-preserved g c =
    let files = c.args.files.now in
    let pieces = c.args.pieces.now in
    let n = length c.files.yielded in
    let begun = c.into_iter-shown-iterator.ensures.into_iter_gives in
    let first =
    ap (λ z. iter_rest (zip_first z)) begun ∙ ap iter_rest c.zip-shown-items.ensures.first ∙ c.iter.ensures.rest in
    let second = ap (λ z. iter_rest (zip_second z)) begun ∙ c.zip-shown-items.ensures.second.0 in
    let turn =
    zip_turn _ _ c.files.yielded c.into_iter-shown-iterator.result c.files.shown-iterator c.next.new.self _
    first second c.files.yielded_by _ c.in-Some.is c.next.ensures.steps in
    let within = is_pair files pieces n turn.0 turn.1 in
    let pair = pair_is files pieces n c.in-Some.shown.now c.in-Some.of_file.now turn.0 turn.1 (turn.2 _) (turn.3 _) in
    let more = length_push c.files.yielded (c.in-Some.shown, c.in-Some.of_file) in
    subst
    (λ (xs : List ℕ). Puts g.S.Sink.took xs c.args.out.now c.args.self.now
    c.put_file.new.out c.put_file.new.self)
    (flat_more (item_after placed_data) (zip files pieces) n (c.in-Some.shown.now, c.in-Some.of_file.now) within pair
    ∙ ap (λ k. flat_map (item_after placed_data) (take k (zip files pieces))) (sym more))
    (puts_both _ _ _ _ _ _ _ _ c.files.invariant (rw c.file.ensures at c.in_ok-put_file.ensures.put))

pub returns-in_err-put_file-clause-stopped : goal.returns-in_err-put_file-clause-stopped
returns-in_err-put_file-clause-stopped g c =
    let files = c.args.files.now in
    let pieces = c.args.pieces.now in
    let n = length c.files.yielded in
    let begun = c.into_iter-shown-iterator.ensures.into_iter_gives in
    let first =
    ap (λ z. iter_rest (zip_first z)) begun ∙ ap iter_rest c.zip-shown-items.ensures.first ∙ c.iter.ensures.rest in
    let second = ap (λ z. iter_rest (zip_second z)) begun ∙ c.zip-shown-items.ensures.second.0 in
    let turn =
    zip_turn _ _ c.files.yielded c.into_iter-shown-iterator.result c.files.shown-iterator c.next.new.self _
    first second c.files.yielded_by _ c.in-Some.is c.next.ensures.steps in
    let within = is_pair files pieces n turn.0 turn.1 in
    let pair = pair_is files pieces n c.in-Some.shown.now c.in-Some.of_file.now turn.0 turn.1 (turn.2 _) (turn.3 _) in
    fault_after g.S.Sink.lawful _ _ _ _ _ _ _ _ _ _ _ c.from_residual.ensures
    (flat_rest (item_after placed_data) (zip files pieces) n (c.in-Some.shown.now, c.in-Some.of_file.now) within pair)
    c.files.invariant (rw c.file.ensures at c.in_err-put_file.ensures.stopped)

pub returns-clause-put : goal.returns-clause-put
returns-clause-put g c =
    let files = c.args.files.now in
    let pieces = c.args.pieces.now in
    let begun = c.into_iter-shown-iterator.ensures.into_iter_gives in
    let first =
    ap (λ z. iter_rest (zip_first z)) begun ∙ ap iter_rest c.zip-shown-items.ensures.first ∙ c.iter.ensures.rest in
    let second = ap (λ z. iter_rest (zip_second z)) begun ∙ c.zip-shown-items.ensures.second.0 in
    let end =
    zip_end _ _ c.files.yielded c.into_iter-shown-iterator.result c.files.shown-iterator c.next.new.self _
    first second c.files.yielded_by c.in-None.is c.next.ensures.steps in
    subst
    (λ (xs : List ℕ). Puts g.S.Sink.took xs c.args.out.now c.args.self.now c.files.out c.files.self)
    (flat_all (item_after placed_data) (zip files pieces) (length c.files.yielded) (are_pairs files pieces _ end))
    c.files.invariant
