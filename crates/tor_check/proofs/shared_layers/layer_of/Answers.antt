use Rattle.std.proofs.lemmas.Option.{slice_get-get_or}
use Rattle.tor_check.proofs.Names.{◌≡◌, ◌<◌, ◌∙◌, List, ℕ, [], Option, Some, ap, length, rules, lt-ltb, slice_get}
use Rattle.tor_check.proofs.Names.{slice_get_within, unwrap_or, hashes_in, root_of_file, seen, IsShared}
use Rattle.tor_check.proofs.Kept.{kept_one_more}
use Rattle.tor_check.proofs.shared_layers.layer_of.Goals as goal

pub returns-in-Some-shared-clause-value : goal.returns-in-Some-shared-clause-value
returns-in-Some-shared-clause-value c =
    let layers = c.args.layers.now in
    let index = c.in-Some.index in
    let within : index < length c.args.shared.now =
    rw c.requires.one_each (slice_get_within _ _ _ c.in-Some.ensures.index) in
    let at : slice_get c.args.shared.now index ≡ Some (Some c.in-Some-shared.layer) =
    slice_get-get_or c.args.shared.now index c.index-shared-index.result within ∙ ap Some c.in-Some-shared.is in
    let kept = c.requires.shared index (root_of_file c.args.file.now) _ c.in-Some.ensures.index at in
    rw (lt-ltb layers.piece_length c.args.file.now.length c.if-file-layers.false)
    (c.in_ok-clone.ensures.cases ∙ kept)

pub offset_bounds-shared-index-2 : goal.offset_bounds-shared-index-2
offset_bounds-shared-index-2 c =
    let within : c.in-Some.index < length c.args.shared.now =
    rw c.requires.one_each (slice_get_within _ _ _ c.in-Some.ensures.index) in
    search (rules, within)

pub bounds-shared-index-2 : goal.bounds-shared-index-2
bounds-shared-index-2 c = rw c.requires.one_each (slice_get_within _ _ _ c.in-Some.ensures.index)

pub returns-clause-shared : goal.returns-clause-shared
returns-clause-shared c =
    let layers = seen c.args.layers.now in
    let text = ap (λ (text : Option (List ℕ)). hashes_in (unwrap_or text [])) c.in-Some.ensures.text in
    kept_one_more (IsShared layers) layers c.args.shared.now c.in-Some.index (root_of_file c.args.file.now)
    (Some c.in_ok-clone-2.field-0) c.in-Some.ensures.index
    (c.in_ok-clone-2.ensures.cases ∙ c.in_ok-layer.ensures.ok ∙ c.as_chunks.ensures.front ∙ text) c.requires.shared
