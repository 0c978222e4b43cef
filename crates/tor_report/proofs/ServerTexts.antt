-- What is told of the servers that a torrent names.
use Rattle.std.proofs.Common.{◌≡◌, ◌∙◌, refl, sym, ap, Bool, false, true, List, [], ◌∷◌, ◌++◌, map, rules, Vec, Global}
use Rattle.std.proofs.lemmas.Bool.{cond-false, cond-true}
use Rattle.std.proofs.lemmas.List.Folds.{list_all-map}
use Rattle.std.specs.List.{list_all}
use Rattle.std.specs.Prelude.{◌&&◌, Option, Some}
use Rattle.serde_json.specs.Data.{Data, array, null}
use Rattle.serde_json.specs.View.{items_of}
use Rattle.serde_json.specs.Written.{compact_text}
use Rattle.tor_bencode.specs.Data.{Data as Tree, list}
use Rattle.tor_bencode.specs.RefView.{view}
use Rattle.tor_bencode.specs.View.{items_of as tree_items}
use Rattle.tor_bencode.specs.declared.item_ref.ItemRef.{ItemRef, List as RefList, the_lemmas}
use Rattle.tor_spec.specs.valid.Parts.{is_list, is_string, items_in, items_of_list}
use Rattle.tor_report.specs.Servers.{data_if, text_data, texts_data, tiers_data, urls_data}
use Rattle.tor_report.specs.steps.Members.{told_text, told_tier}

-- the items of a list that was put together
items_back : (values : List Tree) → items_in (tree_items values) ≡ values
items_back [] = refl
items_back (value ∷ values) = ap (λ rest. value ∷ rest) (items_back values)

list_is : (items : Vec ItemRef Global) → view (RefList items) ≡ list (tree_items (map view items.items))
list_is items = search (rules, the_lemmas)

pub list_items : (items : Vec ItemRef Global) → map view items.items ≡ items_of_list (view (RefList items))
list_items items = sym (items_back (map view items.items)) ∙ ap items_of_list (sym (list_is items))

-- a test of all items of a list
all_items : (test : Tree → Bool) (items : List ItemRef) (values : List Tree) → map view items ≡ values
    → list_all (λ item. test (view item)) items ≡ list_all test values
all_items test items values same = sym (list_all-map test view items) ∙ ap (list_all test) same

-- of a list, whether all its items pass
pub all_pass : (test : Tree → Bool) (items : List ItemRef) (value : Tree) → map view items ≡ items_of_list value
    → is_list value ≡ true
    → list_all (λ item. test (view item)) items ≡ (is_list value && list_all test (items_of_list value))
all_pass test items value same holds =
    all_items test items (items_of_list value) same
    ∙ ap (λ t. t && list_all test (items_of_list value)) (sym holds)

of_views : (tell : Tree → Data) (items : List ItemRef)
    → map (λ item. tell (view item)) items ≡ map tell (map view items)
of_views tell [] = refl
of_views tell (item ∷ items) = ap (λ rest. tell (view item) ∷ rest) (of_views tell items)

told_array : (tell : Tree → Data) (items : List ItemRef) (value : Tree) → map view items ≡ items_of_list value
    → array (items_of (map (λ item. tell (view item)) items)) ≡ array (items_of (map tell (items_of_list value)))
told_array tell items value same =
    ap (λ all. array (items_of all)) (of_views tell items ∙ ap (map tell) same)

pub texts_told : (items : List ItemRef) (value : Tree) → map view items ≡ items_of_list value
    → array (items_of (map told_text items)) ≡ texts_data value
texts_told = told_array text_data

pub tiers_told : (items : List ItemRef) (value : Tree) → map view items ≡ items_of_list value
    → array (items_of (map told_tier items)) ≡ tiers_data value
tiers_told = told_array texts_data

-- a value that has its shape
pub told_if : (test : Tree → Bool) (tell : Tree → Data) (found : Option Tree) (value : Tree) → Some value ≡ found
    → test value ≡ true → tell value ≡ data_if test tell found
told_if test tell found value is holds =
    sym (cond-true (test value) (tell value) null holds) ∙ ap (data_if test tell) is

pub one_url : (value : Tree) → is_string value ≡ true
    → (91 ∷ compact_text (text_data value)) ++ 93 ∷ [] ≡ compact_text (urls_data value)
one_url value holds = ap compact_text (sym (cond-true (is_string value) _ _ holds))

pub many_urls : (value : Tree) → is_string value ≡ false
    → compact_text (texts_data value) ≡ compact_text (urls_data value)
many_urls value fails = ap compact_text (sym (cond-false (is_string value) _ _ fails))
