-- The fields are those of the facts.
use Rattle.std.proofs.Common.{◌≡◌, ◌∙◌, ◌&&◌, ◌∷◌, ◌++◌, [], Bool, true, false, not, ap, refl}
use Rattle.std.proofs.Common.{ℕ, List, Option, None, option_map, subst, sym, codes}
use Rattle.std.specs.Prelude.{OnOk, pos, if◌then◌else◌}
use Rattle.tor_bencode.specs.Data.{Data, integer, string}
use Rattle.tor_bencode.specs.View.{pairs_view, view}
use Rattle.tor_spec.specs.Dictionary.{present, when}
use Rattle.tor_spec.specs.Facts.{Facts, attrs_in, listed, roots_in}
use Rattle.tor_spec.specs.FilesList.{files_list}
use Rattle.tor_spec.specs.InfoDictionary.{single_letters, total_size}
use Rattle.tor_spec.specs.Settings.{Settings, layout_of}
use Rattle.tor_tree.specs.Kinds.{has_v1, has_v2}
use Rattle.tor_tree.specs.WrittenTree.{file_tree}
use Rattle.tor_v1.specs.Entries.{v1_entries, with_letters}
use Rattle.tor_meta.specs.Head.{settings_of}
use Rattle.tor_meta.specs.steps.Fields.{file_fields}
use Rattle.tor_meta.proofs.Listed.{small_files}
use Rattle.tor_meta.proofs.Pushed.{four_after}
use Rattle.tor_meta.proofs.fields.info.push_of_files.Goals as goal

pub only_length-length-requires-clause-small : goal.only_length-length-requires-clause-small
only_length-length-requires-clause-small c =
    rw c.files.ensures.value (small_files c.args.list.now.files c.files.ensures.lawful)

as_fields : (settings : Settings) (facts : List Facts) (attr tree files length : Option Data)
    → attr ≡ (if has_v1 settings.kind && settings.single then option_map string (single_letters facts) else None)
    → tree ≡ when (has_v2 settings.kind) (file_tree (listed facts) (attrs_in facts) (roots_in facts))
    → files ≡ when (has_v1 settings.kind && not settings.single) (files_list (with_letters (attrs_in facts)
    (v1_entries (layout_of settings) settings.piece_length (listed facts))))
    → length ≡ when (has_v1 settings.kind && settings.single) (integer (pos (total_size facts)))
    → (codes "attr", attr) ∷ (codes "file tree", tree) ∷ (codes "files", files) ∷ (codes "length", length) ∷ []
    ≡ file_fields settings facts
as_fields settings facts attr tree files length e1 e2 e3 e4 = rw (e1, e2, e3, e4) refl

-- a value that is there is the same
when_there : (b : Bool) (one other : Data) → (b ≡ true → one ≡ other) → when b one ≡ when b other
when_there true one other same = rw (same refl) refl
when_there false one other same = refl

pub returns : goal.returns
returns c = λ facts told fields so_far.
    let head = c.args.head.now in
    let list = c.args.list.now in
    let roots = c.args.sums.now.roots.items in
    let attr = c.in_ok-only_attr.ensures facts told.is_lettered in
    let tree : option_map view c.in_ok-tree.field-0
    ≡ when (has_v2 head.kind) (file_tree (listed facts) (attrs_in facts) (roots_in facts)) =
    c.in_ok-tree.ensures
    ∙ when_there (has_v2 head.kind) (file_tree list.files list.attrs roots) _
    (λ there. sym (rw (told.is_listed, told.is_lettered, told.is_rooted there) refl)) in
    let entries : option_map view c.in_ok-entry_list.field-0
    ≡ when (has_v1 head.kind && not head.single) (files_list (with_letters (attrs_in facts)
    (v1_entries (layout_of (settings_of head)) head.piece_length (listed facts)))) =
    c.in_ok-entry_list.ensures ∙ sym (rw (told.is_listed, told.is_lettered) refl) in
    let length = c.only_length-length.ensures facts (told.is_listed ∙ sym c.files.ensures.value) in
    let a : List ℕ × Option Data = (codes "attr", option_map view c.in_ok-only_attr.field-0) in
    let b : List ℕ × Option Data = (codes "file tree", option_map view c.in_ok-tree.field-0) in
    let d : List ℕ × Option Data = (codes "files", option_map view c.in_ok-entry_list.field-0) in
    let e : List ℕ × Option Data = (codes "length", option_map view c.only_length-length.result) in
    let one = c.in_ok-push_field.ensures fields so_far in
    let two = c.in_ok-push_field-2.ensures (fields ++ a ∷ []) one in
    let three = c.in_ok-push_field-3.ensures ((fields ++ a ∷ []) ++ b ∷ []) two in
    subst (λ (all : List (List ℕ × Option Data)).
    OnOk c.push_field-4.result (pairs_view c.push_field-4.new.pairs.items ≡ present all))
    (four_after fields a b d e ∙ ap (λ more. fields ++ more)
    (as_fields (settings_of head) facts _ _ _ _ attr tree entries length))
    (c.push_field-4.ensures (((fields ++ a ∷ []) ++ b ∷ []) ++ d ∷ []) three)
