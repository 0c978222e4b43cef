use Rattle.tor_check.proofs.Names.{◌≡◌, ap, Err, ⊎_elim, view, takes_files, list_if, takes_tree, tree_if, Memory}
use Rattle.tor_check.proofs.Names.{of_list, of_tree}
use Rattle.tor_check.proofs.BothSides.{by_list, by_tree, memory_of_either}
use Rattle.tor_check.proofs.sides.read_sides.Goals as goal

pub returns-in-Err-tree_of-clause-memory : goal.returns-in-Err-tree_of-clause-memory
returns-in-Err-tree_of-clause-memory c = λ is.
    let info = view c.args.head.now.info.now in
    let told : c.in-Err-tree_of.refusal ≡ Memory = cc in
    by_tree (of_list takes_files info) (of_tree takes_tree info) (c.in-Err-tree_of.ensures.memory (ap Err told))

pub returns-in-Err-clause-memory : goal.returns-in-Err-clause-memory
returns-in-Err-clause-memory c = λ is.
    let info = view c.args.head.now.info.now in
    let told : c.first_of_two.result ≡ Memory = cc in
    let two = c.first_of_two.ensures in
    let list = of_list takes_files info in
    let tree = of_tree takes_tree info in
    ⊎_elim (λ memory. by_list list tree (c.in-Err.ensures.memory (ap Err memory)))
    (λ memory. by_tree list tree (c.tree_of-in-Err.ensures.memory memory))
    (memory_of_either (list_if info) (tree_if info) c.in-Err.refusal c.first_of_two.result c.tree_of-in-Err.result
    c.in-Err.ensures.refused c.tree_of-in-Err.ensures.refused two.alone two.earlier told)
