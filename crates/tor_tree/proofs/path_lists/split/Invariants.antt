use Rattle.tor_tree.proofs.Cited.{◌≡◌, map, slice_index}
use Rattle.tor_tree.proofs.path_lists.split.Given as goal

abbrev pub invariant-loop-path : goal.invariant-loop-path
invariant-loop-path l =
    (l.files.items ≡ map (λ entry. (entry.0, slice_index l.lengths entry.1)) l.yielded)
    × (l.indices.items ≡ map (λ entry. entry.1) l.yielded)
