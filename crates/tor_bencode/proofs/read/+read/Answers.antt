use Rattle.tor_bencode.proofs.Names.{◌≡◌, get_or, Ok, Some, sym, ap, ◌∙◌, subst, arith, inl, inr, ℤ, rules, ints, to_z}
use Rattle.tor_bencode.proofs.Names.{of_z, SFits, err_from_is_err_and, Data, Items, Pairs, integer}
use Rattle.tor_bencode.proofs.Names.{list, dictionary, ◌>>=◌, Reading, Stops, value_at, items_at, pairs_at, ref_view}
use Rattle.tor_bencode.proofs.Names.{ref_items_view, ref_pairs_view}
use mir.Syntax.{w64}
use Rattle.tor_bencode.proofs.Loops.{with_items, with_pairs, items_view-push, items_cut, items_end, items_go_on}
use Rattle.tor_bencode.proofs.Loops.{items_stop}
use Rattle.tor_bencode.proofs.Loops.{stops_bind, pairs_view-push, pairs_cut, pairs_end, pairs_go_on, pairs_stop_key}
use Rattle.tor_bencode.proofs.Loops.{pairs_stop_order, pairs_stop_value}
use Rattle.tor_bencode.proofs.Values.{value_integer, value_list, value_dictionary, value_string, value_too_deep}
use Rattle.tor_bencode.proofs.Spelled.{starts_within}
use Rattle.tor_bencode.proofs.Views.{ref_view-Int, ref_view-List, ref_view-Dict}
use Rattle.tor_bencode.proofs.read.+read.Goals as goal

pub list-returns-in-101-clause-read : goal.list-returns-in-101-clause-read
list-returns-in-101-clause-read t c =
    let l = c.items in
    items_end (value_at c.args.room) (ref_items_view l.items.items) l.invariant.0 l.rest.now _ (omega arith)
    (omega arith) l.invariant.1 l.invariant.3

pub list-items-preserved : goal.list-items-preserved
list-items-preserved t c =
    let l = c.items in
    let other : get_or l.rest.now 0 0 ≡ 101 → ⊥ = omega arith in
    let step =
    items_go_on (value_at c.args.room) (ref_items_view l.items.items) l.invariant.0 l.rest.now
    (ref_view c.in_ok-item.item) c.in_ok-item.after.now _
    (omega arith) other l.invariant.1 c.in_ok-item.ensures.shorter c.in_ok-item.ensures.read l.invariant.3 in
    let front = ap ref_items_view c.in_ok-add.ensures ∙ items_view-push l.items.items c.in_ok-item.item in (
      step.0,
      step.1,
      omega (arith, c.in_ok-item.ensures.shorter),
      ap (λ items. with_items items (items_at (value_at c.args.room) step.0 c.in_ok-item.after.now)) front ∙ step.2,
    )

pub dictionary-returns-in-101-clause-read : goal.dictionary-returns-in-101-clause-read
dictionary-returns-in-101-clause-read t c =
    let l = c.pairs in
    pairs_end (value_at c.args.room) (ref_pairs_view l.pairs.items) l.invariant.0 _ l.rest.now _ (omega arith)
    (omega arith) l.invariant.1 l.invariant.3

pub dictionary-returns-in_err-key-clause-read : goal.dictionary-returns-in_err-key-clause-read
dictionary-returns-in_err-key-clause-read t c =
    let l = c.pairs in
    let p = err_from_is_err_and c.from_residual.result c.from_residual.ensures.1 in
    rw (p.1, p.2)
    (pairs_stop_key (value_at c.args.room) (ref_pairs_view l.pairs.items) l.invariant.0 _ l.rest.now _
    (starts_within _ (omega arith) (omega arith) (omega arith)) l.invariant.1 l.invariant.3 c.in_err-key.field-0.0
    c.in_err-key.ensures.read)

pub dictionary-returns-then-not-follows-clause-read : goal.dictionary-returns-then-not-follows-clause-read
dictionary-returns-then-not-follows-clause-read t c =
    let l = c.pairs in
    pairs_stop_order (value_at c.args.room) (ref_pairs_view l.pairs.items) l.invariant.0 _ l.rest.now _
    (starts_within _ (omega arith) (omega arith) (omega arith)) l.invariant.1 l.invariant.3 c.in_ok-key.key.now
    c.in_ok-key.after.now c.in_ok-key.ensures.read (sym c.follows.ensures ∙ c.if-not-follows.true)

pub dictionary-returns-in_err-item-clause-read : goal.dictionary-returns-in_err-item-clause-read
dictionary-returns-in_err-item-clause-read t c =
    let l = c.pairs in
    let p = err_from_is_err_and c.from_residual-in_err-item.result c.from_residual-in_err-item.ensures.1 in
    rw (p.1, p.2)
    (pairs_stop_value (value_at c.args.room) (ref_pairs_view l.pairs.items) l.invariant.0 _ l.rest.now _
    (starts_within _ (omega arith) (omega arith) (omega arith)) l.invariant.1 l.invariant.3 c.in_ok-key.key.now
    c.in_ok-key.after.now c.in_ok-key.ensures.read c.in_err-item.field-0.0
    (sym c.follows.ensures ∙ c.if-not-follows.false) c.in_err-item.ensures.read)

pub dictionary-pairs-preserved : goal.dictionary-pairs-preserved
dictionary-pairs-preserved t c =
    let l = c.pairs in
    let step =
    pairs_go_on (value_at c.args.room) (ref_pairs_view l.pairs.items) l.invariant.0 _ l.rest.now _
    (starts_within _ (omega arith) (omega arith) (omega arith)) l.invariant.1 l.invariant.3 c.in_ok-key.key.now
    c.in_ok-key.after.now c.in_ok-key.ensures.read (ref_view c.in_ok-item.item) c.in_ok-item.after.now
    (omega (arith, c.in_ok-key.ensures.shorter, c.in_ok-item.ensures.shorter))
    (sym c.follows.ensures ∙ c.if-not-follows.false) c.in_ok-item.ensures.read in
    let front =
    ap ref_pairs_view c.in_ok-add.ensures
    ∙ pairs_view-push l.pairs.items c.in_ok-key.key c.in_ok-item.item in (
      step.0,
      step.1,
      omega (arith, c.in_ok-key.ensures.shorter, c.in_ok-item.ensures.shorter),
      ap (λ pairs.
          with_pairs pairs (pairs_at (value_at c.args.room) step.0 (Some c.in_ok-key.key.now) c.in_ok-item.after.now))
          front
          ∙ step.2,
    )

pub value-returns-then-room-eq0-clause-read : goal.value-returns-then-room-eq0-clause-read
value-returns-then-room-eq0-clause-read t c =
    value_too_deep c.args.room c.args.bytes.now (omega arith) c.if-room-eq0.true (inl (omega arith))

pub value-returns-then-room-eq0-2-clause-read : goal.value-returns-then-room-eq0-2-clause-read
value-returns-then-room-eq0-2-clause-read t c =
    value_too_deep c.args.room c.args.bytes.now (omega arith) c.if-room-eq0-2.true (inr (omega arith))

pub value-returns-in_err-items-in-108-clause-read : goal.value-returns-in_err-items-in-108-clause-read
value-returns-in_err-items-in-108-clause-read t c =
    let p =
    err_from_is_err_and c.from_residual-in_err-items-in-108.result c.from_residual-in_err-items-in-108.ensures.1 in
    let stop = c.in_err-items-in-108.field-0.0 in
    rw (p.1, p.2)
    (subst (Stops stop) (sym (value_list c.args.room c.args.bytes.now (omega arith) (omega arith) (omega arith)))
    (stops_bind stop _ _ c.in_err-items-in-108.ensures.read))

pub value-returns-in_err-pairs-in-100-clause-read : goal.value-returns-in_err-pairs-in-100-clause-read
value-returns-in_err-pairs-in-100-clause-read t c =
    let p =
    err_from_is_err_and c.from_residual-in_err-pairs-in-100.result c.from_residual-in_err-pairs-in-100.ensures.1 in
    let stop = c.in_err-pairs-in-100.field-0.0 in
    rw (p.1, p.2)
    (subst (Stops stop) (sym (value_dictionary c.args.room c.args.bytes.now (omega arith) (omega arith) (omega arith)))
    (stops_bind stop _ _ c.in_err-pairs-in-100.ensures.read))

pub value-returns-in_ok-items-in-108-clause-read : goal.value-returns-in_ok-items-in-108-clause-read
value-returns-in_ok-items-in-108-clause-read t c =
    value_list c.args.room c.args.bytes.now (omega arith) (omega arith) (omega arith)
    ∙ ap (λ (r : Reading Items). r >>= λ items. Ok (list items.0, items.1)) c.in_ok-items-in-108.ensures.read
    ∙ ap (λ (d : Data). Ok (d, c.in_ok-items-in-108.rest.now)) (sym (ref_view-List c.in_ok-items-in-108.items))

pub value-returns-in_ok-pairs-in-100-clause-read : goal.value-returns-in_ok-pairs-in-100-clause-read
value-returns-in_ok-pairs-in-100-clause-read t c =
    value_dictionary c.args.room c.args.bytes.now (omega arith) (omega arith) (omega arith)
    ∙ ap (λ (r : Reading Pairs). r >>= λ pairs. Ok (dictionary pairs.0, pairs.1)) c.in_ok-pairs-in-100.ensures.read
    ∙ ap (λ (d : Data). Ok (d, c.in_ok-pairs-in-100.rest.now)) (sym (ref_view-Dict c.in_ok-pairs-in-100.pairs))

pub value-returns-in_ok-n-in-105-clause-read : goal.value-returns-in_ok-n-in-105-clause-read
value-returns-in_ok-n-in-105-clause-read t c =
    let n = c.in_ok-n-in-105.n in
    let fits : SFits w64 c.in_ok-n-in-105.n = search rules in
    let same : to_z w64 (of_z w64 c.in_ok-n-in-105.n) ≡ c.in_ok-n-in-105.n = omega (arith, ints) in
    value_integer c.args.room c.args.bytes.now (omega arith) (omega arith)
    ∙ ap (λ (r : Reading ℤ). r >>= λ x. Ok (integer x.0, x.1)) c.in_ok-n-in-105.ensures.read
    ∙ ap (λ (d : Data). Ok (d, c.in_ok-n-in-105.rest.now))
    (ap integer (sym same) ∙ sym (ref_view-Int (to_z w64 (of_z w64 c.in_ok-n-in-105.n))))

pub list-returns-in_err-item-clause-read : goal.list-returns-in_err-item-clause-read
list-returns-in_err-item-clause-read t c =
    let l = c.items in
    let p = err_from_is_err_and c.from_residual.result c.from_residual.ensures.1 in
    let other : get_or l.rest.now 0 0 ≡ 101 → ⊥ = omega arith in
    rw (p.1, p.2)
    (items_stop (value_at c.args.room) (ref_items_view l.items.items) l.invariant.0 l.rest.now _ (omega arith) other
    l.invariant.1 l.invariant.3 c.in_err-item.field-0.0 c.in_err-item.ensures.read)

pub list-returns-in-empty-clause-read : goal.list-returns-in-empty-clause-read
list-returns-in-empty-clause-read t c =
    let l = c.items in
    items_cut (value_at c.args.room) (ref_items_view l.items.items) l.invariant.0 l.rest.now _ (omega arith)
    l.invariant.3

pub dictionary-returns-in-empty-clause-read : goal.dictionary-returns-in-empty-clause-read
dictionary-returns-in-empty-clause-read t c =
    let l = c.pairs in
    pairs_cut (value_at c.args.room) (ref_pairs_view l.pairs.items) l.invariant.0 _ l.rest.now _ (omega arith)
    l.invariant.3

pub value-returns-in_err-n-in-105-clause-read : goal.value-returns-in_err-n-in-105-clause-read
value-returns-in_err-n-in-105-clause-read t c =
    let p = err_from_is_err_and c.from_residual.result c.from_residual.ensures.1 in
    let stop = c.in_err-n-in-105.field-0.0 in
    rw (p.1, p.2)
    (subst (Stops stop) (sym (value_integer c.args.room c.args.bytes.now (omega arith) (omega arith)))
    (stops_bind stop _ _ c.in_err-n-in-105.ensures.read))

pub value-returns-in_err-text-in-48-to-57-clause-read : goal.value-returns-in_err-text-in-48-to-57-clause-read
value-returns-in_err-text-in-48-to-57-clause-read t c =
    let p =
    err_from_is_err_and c.from_residual-in_err-text-in-48-to-57.result
    c.from_residual-in_err-text-in-48-to-57.ensures.1 in
    let stop = c.in_err-text-in-48-to-57.field-0.0 in
    let starts = starts_within c.args.bytes.now (omega arith) (omega arith) (omega arith) in
    rw (p.1, p.2)
    (subst (Stops stop) (sym (value_string c.args.room c.args.bytes.now (omega arith) starts.digit))
    (stops_bind stop _ _ c.in_err-text-in-48-to-57.ensures.read))
