use Rattle.tor_tree.proofs.Cited.{◌≡◌, map}
use Rattle.tor_tree.proofs.lettered_lists.apart.Given as goal

abbrev pub invariant-loop-path : goal.invariant-loop-path
invariant-loop-path l =
    (l.files.items ≡ map (λ entry. (entry.0, entry.1.0)) l.yielded)
    × (l.attrs.items ≡ map (λ entry. entry.1.1) l.yielded)
