use Rattle.std.proofs.Common.{◌++◌, ◌∷◌, [], ℕ, List, map, vec_len}
use Rattle.std.specs.List.{All}
use Rattle.std.specs.List.Sorted.{IsStrictlySortedBy}
use Rattle.tor_tree.specs.Path.{name_cmp}
use Rattle.tor_source.specs.steps.Order.{IsAhead, IsEntered, IsWaiting, path_in}
use Rattle.tor_source.proofs.Added.{IsMoved}
use Rattle.tor_source.proofs.folder.walk.add_names.Given as goal

abbrev pub decreases-loop-name : goal.decreases-loop-name
decreases-loop-name l = vec_len l.names

-- each name that is left may be the next
abbrev pub invariant-loop-name : goal.invariant-loop-name
invariant-loop-name l =
    IsStrictlySortedBy (λ name next. name_cmp name.items next.items) l.names.items
    × ((found : List (List (List ℕ))) → IsEntered found l.above l.initial.waiting.items
    → IsAhead found l.above l.waiting.items
    × All (λ name. IsWaiting found (map (path_in l.above) l.waiting.items ++ (l.above ++ name.items ∷ []) ∷ []))
    l.names.items)
    × IsMoved l.fn.names.items l.names.items l.initial.waiting.items l.waiting.items
