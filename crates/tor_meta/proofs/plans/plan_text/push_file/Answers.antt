-- the three items of a file
use Rattle.std.proofs.Common.{◌≡◌, ◌∙◌, ◌++◌, ◌∷◌, [], ℕ, Global, List, Vec, ap, append_assoc, map, refl, rules}
use Rattle.std.proofs.lemmas.List.{map-append}
use Rattle.tor_bencode.specs.Data.{Data, string}
use Rattle.tor_bencode.specs.View.{view}
use Rattle.tor_bencode.specs.declared.item.Item.{Bytes, Item, the_lemmas}
use Rattle.tor_meta.specs.PlanText.{path_text}
use Rattle.tor_engine.proofs.ProvedLaws.{stopped}
use Rattle.tor_meta.proofs.plans.plan_text.push_file.Goals as goal

pub returns-in_err-text : goal.returns-in_err-text
returns-in_err-text c = stopped _ _ c.from_residual.result c.from_residual.ensures.1

pub returns-in_err-push : goal.returns-in_err-push
returns-in_err-push c = stopped _ _ c.from_residual-in_err-push.result c.from_residual-in_err-push.ensures.1

pub returns-in_err-push-2 : goal.returns-in_err-push-2
returns-in_err-push-2 c = stopped _ _ c.from_residual-in_err-push-2.result c.from_residual-in_err-push-2.ensures.1

pub returns-in_err-path_text : goal.returns-in_err-path_text
returns-in_err-path_text c =
    stopped _ _ c.from_residual-in_err-path_text.result c.from_residual-in_err-path_text.ensures.1

pub returns-in_err-push-3 : goal.returns-in_err-push-3
returns-in_err-push-3 c = stopped _ _ c.from_residual-in_err-push-3.result c.from_residual-in_err-push-3.ensures.1

bytes_seen : (bytes : Vec ℕ Global) → view (Bytes bytes) ≡ string bytes.items
bytes_seen bytes = search (the_lemmas, rules)

three_seen : (items : List Item) (a b c : Item) (x y z : Data) → view a ≡ x → view b ≡ y → view c ≡ z
    → map view (((items ++ a ∷ []) ++ b ∷ []) ++ c ∷ []) ≡ map view items ++ x ∷ y ∷ z ∷ []
three_seen items a b c x y z is_x is_y is_z =
    ap (map view) (append_assoc (items ++ a ∷ []) (b ∷ []) (c ∷ []) ∙ append_assoc items (a ∷ []) (b ∷ c ∷ []))
    ∙ map-append view items (a ∷ b ∷ c ∷ []) ∙ rw (is_x, is_y, is_z) refl

pub returns : goal.returns
returns c =
    let path = c.in_ok-path_text.field-0 in
    ap (map view) (c.in_ok-push-3.ensures.items ∙ ap (λ items. items ++ Bytes path ∷ []) (c.in_ok-push-2.ensures.items
    ∙ ap (λ items. items ++ c.number.result ∷ []) c.in_ok-push.ensures.items))
    ∙ three_seen c.args.items.now.items c.in_ok-text.field-0 c.number.result (Bytes path) _ _ _ c.in_ok-text.ensures
    c.number.ensures
    (bytes_seen path ∙ ap string (c.in_ok-path_text.ensures ∙ ap path_text c.names.ensures.value))
