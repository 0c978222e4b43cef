-- The files so far, one more, and all of them.
use Rattle.std.proofs.Common.{◌∙◌, ap, false, length, refl, subst, ℕ, List, sym, take}
use Rattle.std.proofs.lemmas.List.{length_push}
use Rattle.std.proofs.lemmas.Slice.Zip.{zip_end, zip_turn}
use Rattle.std.specs.Iterator.Adapters.{zip_first, zip_second}
use Rattle.std.specs.List.{flat_map, zip}
use Rattle.std.specs.Slice.Iter.{iter_rest}
use Rattle.tor_report.proofs.ProvedLaws.{are_pairs, fault_after, flat_all, flat_more, flat_rest, is_pair, pair_is}
use Rattle.tor_report.proofs.ProvedLaws.{puts_both, puts_none}
use Rattle.tor_report.specs.Put.{Puts}
use Rattle.tor_spec.specs.valid.View.{FileView}
use Rattle.tor_cli.proofs.ItemsTexts.{any_more, items_more, items_rest}
use Rattle.tor_cli.specs.steps.Items.{items_front}
use Rattle.tor_cli.specs.text.Records.{listed_pair}
use Rattle.tor_cli.specs.declared.recheck.bytes_found.BytesFound.{BytesFound}
use Rattle.tor_cli.proofs.recheck.listed_records.put_listed.Goals as goal

pub files-init : goal.files-init
files-init g c = (puts_none _ _, refl)

pub files-preserved : goal.files-preserved
files-preserved g c =
    let told = c.args.told.now in
    let files = c.args.files.now in
    let n = length c.files.yielded in
    let begun = c.into_iter-told-iterator.ensures.into_iter_gives in
    let first =
    ap (λ z. iter_rest (zip_first z)) begun ∙ ap iter_rest c.zip-told-items.ensures.first ∙ c.iter.ensures.rest in
    let second = ap (λ z. iter_rest (zip_second z)) begun ∙ c.zip-told-items.ensures.second.0 in
    let turn =
    zip_turn _ _ c.files.yielded c.into_iter-told-iterator.result c.files.told-iterator c.next.new.self _
    first second c.files.yielded_by _ c.in-Some.is c.next.ensures.steps in
    let within = is_pair told files n turn.0 turn.1 in
    let one : BytesFound × FileView = (c.in-Some.told.now, c.in-Some.file.now) in
    let pair = pair_is told files n c.in-Some.told.now c.in-Some.file.now turn.0 turn.1 (turn.2 _) (turn.3 _) in
    let more = length_push c.files.yielded (c.in-Some.told, c.in-Some.file) in
    let tell = listed_pair c.args.listing in
    let split =
    flat_more tell (zip told files) n one within pair
    ∙ ap (λ k. flat_map tell (take k (zip told files))) (sym more) in
    let some = c.files.invariant.1 in (
      subst
          (λ (xs : List ℕ). Puts g.S.Sink.took xs c.args.out.now c.args.buffer.now c.put_if_listed.new.out
          c.put_if_listed.new.buffer)
          (items_more _ (tell one) c.files.later some _ split)
          (puts_both _ _ _ _ _ _ _ _ c.files.invariant.0 (rw c.file.ensures at c.in_ok-later.ensures.put)),
      any_more _ (tell one) c.files.later some _ _ split (rw c.file.ensures at c.in_ok-later.ensures.later),
    )

pub returns-in_err-later-clause-stopped : goal.returns-in_err-later-clause-stopped
returns-in_err-later-clause-stopped g c =
    let told = c.args.told.now in
    let files = c.args.files.now in
    let n = length c.files.yielded in
    let begun = c.into_iter-told-iterator.ensures.into_iter_gives in
    let first =
    ap (λ z. iter_rest (zip_first z)) begun ∙ ap iter_rest c.zip-told-items.ensures.first ∙ c.iter.ensures.rest in
    let second = ap (λ z. iter_rest (zip_second z)) begun ∙ c.zip-told-items.ensures.second.0 in
    let turn =
    zip_turn _ _ c.files.yielded c.into_iter-told-iterator.result c.files.told-iterator c.next.new.self _
    first second c.files.yielded_by _ c.in-Some.is c.next.ensures.steps in
    let within = is_pair told files n turn.0 turn.1 in
    let one : BytesFound × FileView = (c.in-Some.told.now, c.in-Some.file.now) in
    let pair = pair_is told files n c.in-Some.told.now c.in-Some.file.now turn.0 turn.1 (turn.2 _) (turn.3 _) in
    let tell = listed_pair c.args.listing in
    fault_after g.S.Sink.lawful _ _ _ _ _ _ _ _ _ _ _ c.from_residual.ensures
    (items_rest _ (tell one) c.files.later c.files.invariant.1 _ _
    (flat_rest tell (zip told files) n one within pair))
    c.files.invariant.0 (rw c.file.ensures at c.in_err-later.ensures.stopped)

pub returns-clause-put : goal.returns-clause-put
returns-clause-put g c =
    let told = c.args.told.now in
    let files = c.args.files.now in
    let begun = c.into_iter-told-iterator.ensures.into_iter_gives in
    let first =
    ap (λ z. iter_rest (zip_first z)) begun ∙ ap iter_rest c.zip-told-items.ensures.first ∙ c.iter.ensures.rest in
    let second = ap (λ z. iter_rest (zip_second z)) begun ∙ c.zip-told-items.ensures.second.0 in
    let end =
    zip_end _ _ c.files.yielded c.into_iter-told-iterator.result c.files.told-iterator c.next.new.self _
    first second c.files.yielded_by c.in-None.is c.next.ensures.steps in
    subst
    (λ (xs : List ℕ). Puts g.S.Sink.took xs c.args.out.now c.args.buffer.now c.files.out c.files.buffer)
    (ap (items_front false)
    (flat_all (listed_pair c.args.listing) (zip told files) (length c.files.yielded) (are_pairs told files _ end)))
    c.files.invariant.0
