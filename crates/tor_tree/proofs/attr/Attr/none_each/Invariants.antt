use Rattle.tor_tree.proofs.Cited.{◌≡◌, map, take, no_letters}
use Rattle.tor_tree.proofs.attr.Attr.none_each.Given as goal

abbrev pub invariant-loop-item : goal.invariant-loop-item
invariant-loop-item g l = l.attrs.items ≡ map (λ item. no_letters) (take l._item-index l.items)
