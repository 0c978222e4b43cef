-- what is written with each item, and with the end
use Rattle.tor_bencode.proofs.Names.{◌≡◌, ◌+◌, ◌<◌, ◌++◌, ◌∙◌, ap, append-nil, append_assoc, codes, drop, drop_all}
use Rattle.tor_bencode.proofs.Names.{drop_more, get_or, items_spelling, items_view, length, pairs_spelling, pairs_view}
use Rattle.tor_bencode.proofs.Names.{spelling, string_spelling, sym, view, Global, Item, List, Vec, [], ℕ}
use Rattle.tor_bencode.proofs.write.+write.Goals as goal

item_written : (out new whole : List ℕ) (items : List Item) (i : ℕ) (x : Item) → i < length items
    → x ≡ get_or items i x → new ≡ out ++ spelling (view x)
    → out ++ items_spelling (items_view (drop i items)) ≡ whole
    → new ++ items_spelling (items_view (drop (i + 1) items)) ≡ whole
item_written out new whole items i x within at added before =
    rw (added, append_assoc) (rw (drop_more items i x within, ← at) at before)

regrouped : (a b c d : List ℕ) → a ++ b ++ c ++ d ≡ a ++ (b ++ c ++ d)
regrouped a b c d = simp append_assoc

pair_written : (out keyed new whole : List ℕ) (pairs : List (Vec ℕ Global × Item)) (i : ℕ) (x : Vec ℕ Global × Item)
    → i < length pairs → x ≡ get_or pairs i x → keyed ≡ out ++ string_spelling x.0.items
    → new ≡ keyed ++ spelling (view x.1) → out ++ pairs_spelling (pairs_view (drop i pairs)) ≡ whole
    → new ++ pairs_spelling (pairs_view (drop (i + 1) pairs)) ≡ whole
pair_written out keyed new whole pairs i x within at key value before =
    let left = pairs_spelling (pairs_view (drop (i + 1) pairs)) in
    rw (value, key, regrouped out (string_spelling x.0.items) (spelling (view x.1)) left)
    (rw (drop_more pairs i x within, ← at) at before)

ended : (out new before left spelled end : List ℕ) → left ≡ [] → out ++ left ≡ before ++ spelled → new ≡ out ++ end
    → new ≡ before ++ (spelled ++ end)
ended out new before left spelled end none same added =
    let whole : out ≡ before ++ spelled = sym (append-nil out) ∙ ap (λ l. out ++ l) (sym none) ∙ same in
    added ∙ ap (λ o. o ++ end) whole ∙ append_assoc before spelled end

pub write_list-loop-item-preserved : goal.write_list-loop-item-preserved
write_list-loop-item-preserved t c =
    item_written _ _ _ c.deref-item-items.result.now c.loop-item.item-index c.item-item.result c.loop-item-test.true
    c.item-item.is c.in_ok-write_item.ensures c.loop-item.invariant

pub write_list-returns : goal.write_list-returns
write_list-returns t c =
    let items = c.deref-item-items.result.now in
    let none = ap (λ l. items_spelling (items_view l)) (drop_all c.loop-item.item-index items c.loop-item-test.false) in
    rw (← c.deref-item-items.ensures.value)
    (ended c.loop-item.out.items _ c.args.out.now.items _ (codes "l" ++ items_spelling (items_view items)) (codes "e")
    none c.loop-item.invariant c.in_ok-push-2.ensures.items)

pub write_dictionary-loop-key-preserved : goal.write_dictionary-loop-key-preserved
write_dictionary-loop-key-preserved t c =
    pair_written _ _ _ _ c.deref-key-items.result.now c.loop-key.key-index c.loop-key-item.result c.loop-key-test.true
    c.loop-key-item.is
    (c.in_ok-write_string.ensures ∙ ap (λ text. c.loop-key.out.items ++ string_spelling text) c.deref.ensures.value)
    c.in_ok-write_item.ensures c.loop-key.invariant

pub write_dictionary-returns : goal.write_dictionary-returns
write_dictionary-returns t c =
    let pairs = c.deref-key-items.result.now in
    let none = ap (λ l. pairs_spelling (pairs_view l)) (drop_all c.loop-key.key-index pairs c.loop-key-test.false) in
    rw (← c.deref-key-items.ensures.value)
    (ended c.loop-key.out.items _ c.args.out.now.items _ (codes "d" ++ pairs_spelling (pairs_view pairs)) (codes "e")
    none c.loop-key.invariant c.in_ok-push-2.ensures.items)
