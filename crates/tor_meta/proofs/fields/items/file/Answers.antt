-- field after field
use Rattle.std.proofs.Common.{◌≡◌, ◌∷◌, ◌∙◌, [], ℕ, List, Option, Some, ap, codes, option_map, refl}
use Rattle.std.specs.Prelude.{pos}
use Rattle.tor_bencode.specs.Data.{Data, dictionary, integer, string}
use Rattle.tor_bencode.specs.View.{pairs_view, view}
use Rattle.tor_spec.specs.Dictionary.{present}
use Rattle.tor_spec.specs.FilesList.{attr_of, entry_dictionary, strings}
use Rattle.tor_v1.specs.declared.entry.Entry.{Entry}
use Rattle.tor_meta.proofs.fields.items.file.Goals as goal

as_entry : (entry : Entry) (attr length path : Option Data) → attr ≡ option_map string (attr_of entry)
    → length ≡ Some (integer (pos entry.length)) → path ≡ Some (strings entry.path)
    → dictionary (present ((codes "attr", attr) ∷ (codes "length", length) ∷ (codes "path", path) ∷ []))
    ≡ entry_dictionary entry
as_entry entry attr length path e1 e2 e3 = rw (e1, e2, e3) refl

pub returns : goal.returns
returns c =
    let a : List ℕ × Option Data = (codes "attr", option_map view c.in_ok-attr_of.field-0) in
    let b : List ℕ × Option Data = (codes "length", Some (view c.number.result)) in
    let attr = c.in_ok-push_field.ensures [] (ap pairs_view c.new-pairs.ensures.items) in
    let length = c.in_ok-push_field-2.ensures (a ∷ []) attr in
    c.dictionary.ensures ∙ ap dictionary (c.in_ok-push_field-3.ensures (a ∷ b ∷ []) length)
    ∙ as_entry c.args.entry.now _ _ _ c.in_ok-attr_of.ensures (ap Some c.number.ensures)
    (ap Some (c.in_ok-path.ensures ∙ ap strings c.names.ensures.value))
