-- field after field
use Rattle.std.proofs.Common.{◌≡◌, ◌∙◌, ◌∷◌, ◌++◌, [], ℕ, List, Option, Some, ap, append_assoc, codes, option_map}
use Rattle.std.proofs.Common.{refl, subst}
use Rattle.std.specs.List.{flat_map}
use Rattle.std.specs.Prelude.{OnOk}
use Rattle.tor_bencode.specs.Data.{Data, list, string}
use Rattle.tor_bencode.specs.View.{items_of, pairs_view, view}
use Rattle.tor_meta.specs.Head.{settings_of}
use Rattle.tor_meta.specs.PlanText.{file_items, kind_text}
use Rattle.tor_meta.specs.steps.PlanText.{fields_before_name}
use Rattle.tor_spec.specs.Dictionary.{present}
use Rattle.tor_spec.specs.Settings.{Settings}
use Rattle.tor_tree.specs.FileList.{LetteredFiles, files_with_attrs}
use Rattle.tor_meta.proofs.plans.plan_text.push_before_name.Goals as goal

three_after : {X : Type 0} (xs : List X) (a b c : X)
    → ((xs ++ a ∷ []) ++ b ∷ []) ++ c ∷ [] ≡ xs ++ a ∷ b ∷ c ∷ []
three_after xs a b c =
    append_assoc (xs ++ a ∷ []) (b ∷ []) (c ∷ []) ∙ append_assoc xs (a ∷ []) (b ∷ c ∷ [])

as_fields : (settings : Settings) (files : LetteredFiles) (url items kind : Option Data)
    → url ≡ option_map string settings.announce
    → items ≡ Some (list (items_of (flat_map file_items (files_with_attrs files))))
    → kind ≡ Some (string (kind_text settings.kind))
    → (codes "announce", url) ∷ (codes "files", items) ∷ (codes "kind", kind) ∷ []
    ≡ fields_before_name settings files
as_fields settings files url items kind e1 e2 e3 = rw (e1, e2, e3) refl

pub returns : goal.returns
returns c = λ fields so_far.
    let head = c.args.head.now in
    let files : LetteredFiles = record { files = c.args.files.now; attrs = c.args.attrs.now } in
    let a : List ℕ × Option Data = (codes "announce", option_map view c.in_ok-url.field-0) in
    let b : List ℕ × Option Data = (codes "files", Some (view c.in_ok-file_list.field-0)) in
    let d : List ℕ × Option Data = (codes "kind", Some (view c.in_ok-kind.kind)) in
    let one = c.in_ok-push_field.ensures fields so_far in
    let two = c.in_ok-push_field-2.ensures (fields ++ a ∷ []) one in
    subst (λ (all : List (List ℕ × Option Data)).
    OnOk c.push_field-3.result (pairs_view c.push_field-3.new.pairs.items ≡ present all))
    (three_after fields a b d ∙ ap (λ more. fields ++ more)
    (as_fields (settings_of head) files _ _ _ c.in_ok-url.ensures (ap Some c.in_ok-file_list.ensures)
    (ap Some (c.in_ok-kind.ensures ∙ ap string c.kind_text.ensures))))
    (c.push_field-3.ensures ((fields ++ a ∷ []) ++ b ∷ []) two)
