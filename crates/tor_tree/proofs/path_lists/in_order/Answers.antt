use Rattle.tor_tree.proofs.Cited.{refl, arith}
use Rattle.tor_tree.proofs.Permuted.{permutation-written_back}
use Rattle.tor_tree.proofs.path_lists.in_order.Goals as goal

pub returns-clause-same : goal.returns-clause-same
returns-clause-same c =
    rw (← c.in_ok-entries.ensures) (permutation-written_back c.in_ok-entries.entries.len c.in_ok-entries.entries.items _
    _ _ (omega arith) c.as_mut_slice.ensures.value c.sort.ensures.permutation refl)
