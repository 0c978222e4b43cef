use Rattle.tor_tree.proofs.Cited.{◌≡◌, ◌<◌, ◌∙◌, false, Some, ap, inl, length, rules, subst, sym, view, pairs_view}
use Rattle.tor_tree.proofs.Cited.{dictionary}
use Rattle.tor_tree.proofs.Cited.{takes_memory, takes_memory_in, tree_fault}
use Rattle.tor_tree.proofs.ItemMemory.{dictionary_of_item, shape_told}
use Rattle.tor_tree.specs.declared.tree_file.TreeFault.TheVariants.{Shape}
use Rattle.tor_tree.proofs.read_item.from_item.Goals as goal

pub returns-then-not-takes_memory-clause-refused : goal.returns-then-not-takes_memory-clause-refused
returns-then-not-takes_memory-clause-refused c =
    let pairs = c.in-Dict.pairs in
    let seen : view c.args.item.now ≡ dictionary (pairs_view pairs.items) =
    ap view c.in-Dict.is ∙ dictionary_of_item pairs in
    let none : takes_memory_in (pairs_view pairs.items) ≡ false =
    ap (λ ps. takes_memory_in (pairs_view ps)) (sym c.deref.ensures.value) ∙ sym c.takes_memory.ensures
    ∙ c.if-not-takes_memory.true in
    let some : 0 < length pairs.items = search rules in
    inl (subst (λ d. tree_fault d ≡ Some Shape) (sym seen) (shape_told pairs.items some none))

pub returns-in_err-lend-clause-memory : goal.returns-in_err-lend-clause-memory
returns-in_err-lend-clause-memory c =
    let pairs = c.in-Dict.pairs in
    let seen : view c.args.item.now ≡ dictionary (pairs_view pairs.items) =
    ap view c.in-Dict.is ∙ dictionary_of_item pairs in
    λ _. ap takes_memory seen ∙ ap (λ ps. takes_memory_in (pairs_view ps)) (sym c.deref.ensures.value)
    ∙ sym c.takes_memory.ensures ∙ c.if-not-takes_memory.false
