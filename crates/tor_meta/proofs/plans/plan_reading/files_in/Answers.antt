-- the list is that of the text
use Rattle.std.proofs.Common.{◌≡◌, ◌∙◌, Some, Vec, Global, ap, codes, map, rules, sym}
use Rattle.std.specs.List.{flat_map}
use Rattle.tor_bencode.specs.Data.{Data, list}
use Rattle.tor_bencode.specs.Find.{value_of}
use Rattle.tor_bencode.specs.RefView.{view}
use Rattle.tor_bencode.specs.View.{items_of}
use Rattle.tor_bencode.specs.declared.item_ref.ItemRef.{ItemRef, List as RefList, the_lemmas}
use Rattle.tor_meta.specs.PlanText.{file_items}
use Rattle.tor_tree.specs.FileList.{files_with_attrs}
use Rattle.tor_meta.proofs.PlanLawful.{value_at}
use Rattle.tor_meta.proofs.PlanTriples.{same_items}
use Rattle.tor_meta.proofs.plans.plan_reading.files_in.Goals as goal

list_is : (items : Vec ItemRef Global) → view (RefList items) ≡ list (items_of (map view items.items))
list_is items = search (rules, the_lemmas)

pub returns-in-Some-List-clause-all : goal.returns-in-Some-List-clause-all
returns-in-Some-List-clause-all c = λ text is same.
    let at = ap (value_of (codes "files")) same ∙ value_at (codes "files") text in
    let is_list = sym (list_is c.in-Some-List.items) ∙ sym (ap view c.in-Some-List.field-0-is) in
    let both : Some (list (items_of (map view c.in-Some-List.items.items)))
    ≡ Some (list (items_of (flat_map file_items (files_with_attrs text.list)))) =
    ap (λ (d : Data). Some d) is_list ∙ c.in-Some-List.ensures ∙ at in
    let items : items_of (map view c.in-Some-List.items.items)
    ≡ items_of (flat_map file_items (files_with_attrs text.list)) = cc in
    c.read_files.ensures.all text is (ap (map view)
    (c.deref.ensures.value ∙ ap (λ (v : Vec ItemRef Global). v.items) c.in-Some-List.items-is) ∙ same_items _ _ items)
