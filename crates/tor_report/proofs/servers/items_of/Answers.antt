-- The items of a list are those of its tree.
use Rattle.std.proofs.Common.{◌∙◌, ap, map, sym, List}
use Rattle.tor_bencode.specs.RefView.{view}
use Rattle.tor_bencode.specs.declared.item_ref.ItemRef.{ItemRef}
use Rattle.tor_spec.specs.valid.Parts.{items_of_list}
use Rattle.tor_report.proofs.ServerTexts.{list_items}
use Rattle.tor_report.proofs.servers.items_of.Goals as goal

pub returns-in-List : goal.returns-in-List
returns-in-List c =
    ap (λ (items : List ItemRef). map view items) c.as_slice.ensures.value
    ∙ list_items c.in-List.items
    ∙ ap (λ (value : ItemRef). items_of_list (view value)) (sym c.in-List.is)
