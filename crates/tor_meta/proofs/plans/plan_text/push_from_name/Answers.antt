-- field after field
use Rattle.std.proofs.Common.{◌≡◌, ◌∙◌, ◌∷◌, ◌++◌, [], ℕ, List, Option, Some, ap, append_assoc, codes, option_map}
use Rattle.std.proofs.Common.{refl, subst}
use Rattle.std.specs.Prelude.{OnOk, pos}
use Rattle.tor_bencode.specs.Data.{Data, integer, string}
use Rattle.tor_bencode.specs.View.{pairs_view, view}
use Rattle.tor_meta.specs.Head.{settings_of}
use Rattle.tor_meta.specs.steps.PlanText.{fields_from_name}
use Rattle.tor_meta.proofs.Pushed.{five_after}
use Rattle.tor_spec.specs.Dictionary.{present, when}
use Rattle.tor_spec.specs.Settings.{Settings}
use Rattle.tor_meta.proofs.plans.plan_text.push_from_name.Goals as goal

six_after : {X : Type 0} (xs : List X) (a b c d e f : X)
    → (((((xs ++ a ∷ []) ++ b ∷ []) ++ c ∷ []) ++ d ∷ []) ++ e ∷ []) ++ f ∷ [] ≡ xs ++ a ∷ b ∷ c ∷ d ∷ e ∷ f ∷ []
six_after xs a b c d e f =
    five_after (xs ++ a ∷ []) b c d e f ∙ append_assoc xs (a ∷ []) (b ∷ c ∷ d ∷ e ∷ f ∷ [])

as_fields : (settings : Settings) (units : ℕ) (name piece_length private single span tail : Option Data)
    → name ≡ Some (string settings.name) → piece_length ≡ Some (integer (pos settings.piece_length))
    → private ≡ when settings.is_private (integer (pos 1)) → single ≡ when settings.single (integer (pos 1))
    → span ≡ Some (integer (pos units)) → tail ≡ when settings.tail (integer (pos 1))
    → (codes "name", name) ∷ (codes "piece length", piece_length) ∷ (codes "private", private)
    ∷ (codes "single", single) ∷ (codes "span", span) ∷ (codes "tail", tail) ∷ [] ≡ fields_from_name settings units
as_fields settings units name piece_length private single span tail e1 e2 e3 e4 e5 e6 =
    rw (e1, e2, e3, e4, e5, e6) refl

pub returns : goal.returns
returns c = λ fields so_far.
    let head = c.args.head.now in
    let a : List ℕ × Option Data = (codes "name", Some (view c.in_ok-name.name)) in
    let b : List ℕ × Option Data = (codes "piece length", Some (view c.number-piece_length.result)) in
    let d : List ℕ × Option Data = (codes "private", option_map view c.flag.result) in
    let e : List ℕ × Option Data = (codes "single", option_map view c.flag-2.result) in
    let f : List ℕ × Option Data = (codes "span", Some (view c.number.result)) in
    let g : List ℕ × Option Data = (codes "tail", option_map view c.flag-3.result) in
    let one = c.in_ok-push_field.ensures fields so_far in
    let two = c.in_ok-push_field-2.ensures (fields ++ a ∷ []) one in
    let three = c.in_ok-push_field-3.ensures ((fields ++ a ∷ []) ++ b ∷ []) two in
    let four = c.in_ok-push_field-4.ensures (((fields ++ a ∷ []) ++ b ∷ []) ++ d ∷ []) three in
    let five = c.in_ok-push_field-5.ensures ((((fields ++ a ∷ []) ++ b ∷ []) ++ d ∷ []) ++ e ∷ []) four in
    subst (λ (all : List (List ℕ × Option Data)).
    OnOk c.push_field-6.result (pairs_view c.push_field-6.new.pairs.items ≡ present all))
    (six_after fields a b d e f g ∙ ap (λ more. fields ++ more)
    (as_fields (settings_of head) c.args.span _ _ _ _ _ _
    (ap Some (c.in_ok-name.ensures ∙ ap string c.as_bytes.ensures.value)) (ap Some c.number-piece_length.ensures)
    c.flag.ensures c.flag-2.ensures (ap Some (c.number.ensures ∙ ap (λ (n : ℕ). integer (pos n)) c.from.ensures))
    c.flag-3.ensures))
    (c.push_field-6.ensures (((((fields ++ a ∷ []) ++ b ∷ []) ++ d ∷ []) ++ e ∷ []) ++ f ∷ []) five)
