-- field after field
use Rattle.std.proofs.Common.{◌≡◌, ◌∙◌, ◌∷◌, ◌++◌, [], ℕ, List, Option, Some, ap, codes, option_map}
use Rattle.std.proofs.Common.{refl, subst}
use Rattle.std.specs.Prelude.{OnOk, pos}
use Rattle.tor_bencode.specs.Data.{Data, integer, string}
use Rattle.tor_bencode.specs.View.{pairs_view, view}
use Rattle.tor_spec.specs.Dictionary.{present, when}
use Rattle.tor_spec.specs.Settings.{Settings}
use Rattle.tor_tree.specs.Kinds.{has_v1, has_v2}
use Rattle.tor_meta.specs.Head.{settings_of}
use Rattle.tor_meta.specs.steps.Fields.{head_fields}
use Rattle.tor_meta.proofs.Pushed.{five_after}
use Rattle.tor_meta.proofs.fields.info.push_of_head.Goals as goal

as_fields : (settings : Settings) (bytes : List ℕ) (version name piece_length pieces private : Option Data)
    → version ≡ when (has_v2 settings.kind) (integer (pos 2)) → name ≡ Some (string settings.name)
    → piece_length ≡ Some (integer (pos settings.piece_length)) → pieces ≡ when (has_v1 settings.kind) (string bytes)
    → private ≡ when settings.is_private (integer (pos 1))
    → (codes "meta version", version) ∷ (codes "name", name) ∷ (codes "piece length", piece_length)
    ∷ (codes "pieces", pieces) ∷ (codes "private", private) ∷ [] ≡ head_fields settings bytes
as_fields settings bytes version name piece_length pieces private e1 e2 e3 e4 e5 = rw (e1, e2, e3, e4, e5) refl

pub returns : goal.returns
returns c = λ fields so_far.
    let head = c.args.head.now in
    let a : List ℕ × Option Data = (codes "meta version", option_map view c.number_if-version.result) in
    let b : List ℕ × Option Data = (codes "name", Some (view c.in_ok-name.name)) in
    let d : List ℕ × Option Data = (codes "piece length", Some (view c.number.result)) in
    let e : List ℕ × Option Data = (codes "pieces", option_map view c.in_ok-pieces.pieces) in
    let f : List ℕ × Option Data = (codes "private", option_map view c.number_if-private.result) in
    let one = c.in_ok-push_field.ensures fields so_far in
    let two = c.in_ok-push_field-2.ensures (fields ++ a ∷ []) one in
    let three = c.in_ok-push_field-3.ensures ((fields ++ a ∷ []) ++ b ∷ []) two in
    let four = c.in_ok-push_field-4.ensures (((fields ++ a ∷ []) ++ b ∷ []) ++ d ∷ []) three in
    subst (λ (all : List (List ℕ × Option Data)).
    OnOk c.push_field-5.result (pairs_view c.push_field-5.new.pairs.items ≡ present all))
    (five_after fields a b d e f ∙ ap (λ more. fields ++ more)
    (as_fields (settings_of head) c.args.sums.now.pieces.items _ _ _ _ _
    (c.number_if-version.ensures ∙ ap (λ v2. when v2 (integer (pos 2))) c.has_v2.ensures)
    (ap Some (c.in_ok-name.ensures ∙ ap string c.as_bytes.ensures.value)) (ap Some c.number.ensures)
    (c.in_ok-pieces.ensures ∙ ap (λ bytes. when (has_v1 head.kind) (string bytes)) c.deref.ensures.value)
    c.number_if-private.ensures))
    (c.push_field-5.ensures ((((fields ++ a ∷ []) ++ b ∷ []) ++ d ∷ []) ++ e ∷ []) four)
