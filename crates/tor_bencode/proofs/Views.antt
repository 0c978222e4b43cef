-- An item, level by level.
use Rattle.tor_bencode.proofs.Names.{◌≡◌, ℕ, ℤ, Vec, Global, rules, integer, list, dictionary, view, items_view}
use Rattle.tor_bencode.proofs.Names.{pairs_view, Item, Int, ListItem, Dict, the_lemmas, Bor, List, ItemRef, RefInt}
use Rattle.tor_bencode.proofs.Names.{RefList, RefDict, ref_lemmas, ref_items_view, ref_pairs_view, ref_view}

pub view-Int : (n : ℤ) → view (Int n) ≡ integer n
view-Int n = search (rules, the_lemmas)

pub view-List : (items : Vec Item Global) → view (ListItem items) ≡ list (items_view items.items)
view-List items = search (rules, the_lemmas)

pub view-Dict : (pairs : Vec (Vec ℕ Global × Item) Global) → view (Dict pairs) ≡ dictionary (pairs_view pairs.items)
view-Dict pairs = search (rules, the_lemmas)

-- and of one that borrows its bytes
pub ref_view-Int : (n : ℤ) → ref_view (RefInt n) ≡ integer n
ref_view-Int n = search (rules, ref_lemmas)

pub ref_view-List : (items : Vec ItemRef Global) → ref_view (RefList items) ≡ list (ref_items_view items.items)
ref_view-List items = search (rules, ref_lemmas)

pub ref_view-Dict : (pairs : Vec (Bor (List ℕ) × ItemRef) Global)
    → ref_view (RefDict pairs) ≡ dictionary (ref_pairs_view pairs.items)
ref_view-Dict pairs = search (rules, ref_lemmas)
