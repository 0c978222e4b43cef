use Rattle.tor_edit.proofs.Names.{◌≡◌, ◌-◌, ◌∙◌, ap, ap₂, sym, subst, dictionary, drop, option_map, pairs_view}
use Rattle.tor_edit.proofs.Names.{keys_of, pairs_spelling, spelling, take, tracker_edited, view, AreRising, Bor, IfOk}
use Rattle.tor_edit.proofs.Names.{HasRisingKeys, List, Option, ℕ, after, before, codes}
use Rattle.tor_edit.proofs.Spelled.{edited_parts, text_of}
use Rattle.tor_edit.proofs.Views.{view-Dict}
use Rattle.tor_edit.proofs.splice.edited.Goals as goal

pub returns : goal.returns
returns c =
    let xs = c.as_slice-pairs.result.now in
    let tracker : Option (List ℕ) = option_map (λ (url : Bor (List ℕ)). url.now) c.args.tracker in
    let announce = c.place_of-announce.result in
    let list = c.place_of-list.result in
    let back = c.split_at.ensures.back in
    let seen : view c.args.root.now ≡ dictionary (pairs_view xs) =
    ap view c.in-Dict.is ∙ view-Dict c.in-Dict.pairs
    ∙ ap (λ ys. dictionary (pairs_view ys)) (sym c.as_slice-pairs.ensures.value) in
    let rising : AreRising (keys_of (pairs_view xs)) = (subst HasRisingKeys seen c.requires.lawful.keys).0 in
    let between = subst (λ ys. pairs_view (take list.before ys) ≡ before (codes "announce-list") (pairs_view ys)) back
    c.place_of-list.ensures.front in
    let behind = subst (λ ys. pairs_view (drop list.through ys) ≡ after (codes "announce-list") (pairs_view ys)) back
    c.place_of-list.ensures.back in
    let text = edited_parts xs tracker announce.before announce.through list.before list.through rising
    c.place_of-announce.ensures.within c.place_of-announce.ensures.front c.place_of-announce.ensures.back
    between behind in
    let first = c.span_of_pairs-first.ensures in
    let second = c.span_of_pairs-second.ensures in
    let third = c.span_of_pairs-third.ensures in
    let written : text_of c.span_of_pairs-first.result.now tracker c.span_of_pairs-second.result.now
    c.span_of_pairs-third.result.now ≡ spelling (tracker_edited (view c.args.root.now) tracker) =
    ap (λ part. text_of part tracker c.span_of_pairs-second.result.now c.span_of_pairs-third.result.now) first
    ∙ ap₂ (text_of (pairs_spelling (pairs_view (take (announce.before - 0) (drop 0 xs)))) tracker) second third
    ∙ text
    ∙ ap (λ root. spelling (tracker_edited root tracker)) (sym seen) in
    subst (λ all. IfOk c.joined.result (λ written. written.items ≡ all)) written c.joined.ensures
