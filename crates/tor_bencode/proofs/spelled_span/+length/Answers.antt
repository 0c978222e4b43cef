use Rattle.tor_bencode.proofs.Names.{◌≡◌, ◌∙◌, ap, arith, ints, rules, length, SFits, of_z, to_z, ref_view}
use Rattle.tor_bencode.proofs.Names.{ref_items_view}
use Rattle.tor_bencode.proofs.Names.{ref_pairs_view, items_spelling, pairs_spelling, spelling, signed_base_ten}
use Rattle.tor_bencode.proofs.Names.{signed_decimal}
use mir.Syntax.{w64}
use Rattle.tor_bencode.proofs.Numerals.{signed_base_ten-decimal}
use Rattle.tor_bencode.proofs.SpelledLengths.{items_longer, length-in, pairs_longer}
use Rattle.tor_bencode.proofs.Views.{ref_view-Dict, ref_view-Int, ref_view-List}
use Rattle.tor_bencode.proofs.spelled_span.+length.Goals as goal

pub length_of-returns-in-Int : goal.length_of-returns-in-Int
length_of-returns-in-Int t c =
    let n = c.in-Int.n in
    let fits : SFits w64 n = search rules in
    let same : to_z w64 (of_z w64 n) ≡ n = omega (arith, ints) in
    let text = ap length (c.format.ensures.text ∙ ap signed_decimal same) in
    let digits = ap length (signed_base_ten-decimal n fits) in
    let long =
    ap (λ d. length (spelling d)) (ap ref_view c.in-Int.is ∙ ref_view-Int n) ∙ length-in 105 (signed_base_ten n) in
    omega (arith, long, digits, text, c.format.ensures.short)

pub length_of-returns-in-List : goal.length_of-returns-in-List
length_of-returns-in-List t c =
    let items = c.in-List.items in
    let long =
    ap (λ d. length (spelling d)) (ap ref_view c.in-List.is ∙ ref_view-List items)
    ∙ length-in 108 (items_spelling (ref_items_view items.items)) in
    let inside = rw c.deref.ensures.value at c.length_of_items.ensures in
    omega (arith, long, inside, c.saturating_add.ensures)

pub length_of-returns-in-Dict : goal.length_of-returns-in-Dict
length_of-returns-in-Dict t c =
    let pairs = c.in-Dict.pairs in
    let long =
    ap (λ d. length (spelling d)) (ap ref_view c.in-Dict.is ∙ ref_view-Dict pairs)
    ∙ length-in 100 (pairs_spelling (ref_pairs_view pairs.items)) in
    let inside = rw c.deref-in-Dict.ensures.value at c.length_of_pairs.ensures in
    omega (arith, long, inside, c.saturating_add-in-Dict.ensures)

pub length_of_items-items-preserved : goal.length_of_items-items-preserved
length_of_items-items-preserved t c =
    let more = items_longer c.args.items.now c.items.item-index c.item-item.result (omega arith) c.item-item.is in
    omega (arith, more, c.items.invariant, c.length_of.ensures, c.saturating_add-count.ensures)

pub length_of_pairs-pairs-preserved : goal.length_of_pairs-pairs-preserved
length_of_pairs-pairs-preserved t c =
    let more = pairs_longer c.args.pairs.now c.pairs.key-index c.pairs-item.result (omega arith) c.pairs-item.is in
    let both = c.saturating_add.ensures in
    let all = c.saturating_add-count.ensures in
    omega (arith, more, c.pairs.invariant, c.length_of.ensures, c.length_of_text.ensures, both, all)
