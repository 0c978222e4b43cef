use Rattle.tor_bencode.proofs.Names.{◌≡◌, ◌+◌, ◌-◌, ◌∙◌, ap, ap₂, sym, arith, length, drop, drop_all, refl, Some, true}
use Rattle.tor_bencode.proofs.Names.{bytes_eq, get_or, Bor, ItemRef, List, ℕ, ◌<◌}
use Rattle.tor_bencode.proofs.Names.{dictionary, pair, ref_view, ref_pairs_view, pairs_spelling, spelling}
use Rattle.tor_bencode.proofs.Names.{string_spelling}
use Rattle.tor_bencode.proofs.Names.{span_of, span_in}
use Rattle.tor_bencode.proofs.SpelledLengths.{left_from, length-pair}
use Rattle.tor_bencode.proofs.Views.{ref_view-Dict}
use Rattle.tor_bencode.proofs.spelled_span.span_of_key.Goals as goal

pub returns-then-eq : goal.returns-then-eq
returns-then-eq c =
    let xs = c.as_slice-pairs.result.now in
    let p = c.index-pairs-i.result in
    let at = c.pairs.at in
    let key = c.args.key.now in
    let k = p.0.now in
    let value = ref_view p.1 in
    let rest = ref_pairs_view (drop (c.pairs.i + 1) xs) in
    let seen : ref_view c.args.root.now ≡ dictionary (ref_pairs_view xs) =
    ap ref_view c.in-Dict.is ∙ ref_view-Dict c.in-Dict.pairs
    ∙ ap (λ ys. dictionary (ref_pairs_view ys)) (sym c.as_slice-pairs.ensures.value) in
    let here = left_from xs c.pairs.i p (omega arith) c.index-pairs-i.is in
    let found : bytes_eq k key ≡ true = sym c.eq.ensures ∙ c.if-eq.true in
    let first : span_in at key (pair k value rest)
    ≡ Some (at + length (string_spelling k), at + length (string_spelling k) + length (spelling value)) =
    rw found refl in
    let span = ap (span_of key) seen ∙ sym c.pairs.invariant.same ∙ ap (span_in at key) here ∙ first in
    let place = c.pairs.invariant.place in
    let left = ap (λ ps. length (pairs_spelling ps)) here ∙ length-pair k value rest in
    let later = rw c.split_at.ensures.back at c.length_of_pairs.ensures in
    let text = c.length_of_text.ensures in
    let fits = c.ranges.size.fits in
    let from : at + c.length_of_text.result ≡ at + length (string_spelling k) =
    omega (arith, place, left, text, fits) in
    let to : c.args.size - 1 - c.length_of_pairs.result
    ≡ at + length (string_spelling k) + length (spelling value) =
    omega (arith, place, left, later, fits) in
    ap₂ (λ s e. Some (s, e)) from to ∙ sym span

pub returns : goal.returns
returns c =
    let xs = c.as_slice-pairs.result.now in
    let seen : ref_view c.args.root.now ≡ dictionary (ref_pairs_view xs) =
    ap ref_view c.in-Dict.is ∙ ref_view-Dict c.in-Dict.pairs
    ∙ ap (λ ys. dictionary (ref_pairs_view ys)) (sym c.as_slice-pairs.ensures.value) in
    sym (ap (span_of c.args.key.now) seen ∙ sym c.pairs.invariant.same
    ∙ ap (λ ys. span_in c.pairs.at c.args.key.now (ref_pairs_view ys)) (drop_all c.pairs.i xs (omega arith)))

-- where the pair here ends, and what is left after it
placed : (pairs : List (Bor (List ℕ) × ItemRef)) (i : ℕ) (x : Bor (List ℕ) × ItemRef) (at size : ℕ)
    → i < length pairs → x ≡ get_or pairs i x → at + length (pairs_spelling (ref_pairs_view (drop i pairs))) + 1 ≡ size
    → at + length (string_spelling x.0.now) + length (spelling (ref_view x.1))
    + length (pairs_spelling (ref_pairs_view (drop (i + 1) pairs))) + 1 ≡ size
placed pairs i x at size within is place =
    let left =
    ap (λ ps. length (pairs_spelling ps)) (left_from pairs i x within is)
    ∙ length-pair x.0.now (ref_view x.1) (ref_pairs_view (drop (i + 1) pairs)) in
    omega (arith, left)

pub overflow_add-start : goal.overflow_add-start
overflow_add-start c =
    let whole =
    placed c.as_slice-pairs.result.now c.pairs.i c.index-pairs-i.result c.pairs.at c.args.size c.pairs-test.true
    c.index-pairs-i.is c.pairs.invariant.place in
    omega (arith, whole, c.length_of_text.ensures)

pub overflow_add-at : goal.overflow_add-at
overflow_add-at c =
    let whole =
    placed c.as_slice-pairs.result.now c.pairs.i c.index-pairs-i.result c.pairs.at c.args.size c.pairs-test.true
    c.index-pairs-i.is c.pairs.invariant.place in
    omega (arith, whole, c.length_of_text.ensures, c.length_of.ensures)

pub overflow_sub-result-then-eq : goal.overflow_sub-result-then-eq
overflow_sub-result-then-eq c =
    let whole =
    placed c.as_slice-pairs.result.now c.pairs.i c.index-pairs-i.result c.pairs.at c.args.size c.pairs-test.true
    c.index-pairs-i.is c.pairs.invariant.place in
    let later = rw c.split_at.ensures.back at c.length_of_pairs.ensures in
    omega (arith, whole, later)
