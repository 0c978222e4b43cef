use Rattle.tor_check.proofs.Names.{◌∙◌, ap, inl, inr, subst, sym, ⊎_elim, view, of_tree_fault, Names, first_of_tree}
use Rattle.tor_check.proofs.TreeDecides.{at_tree_end, at_tree_fault}
use Rattle.tor_check.proofs.tree_side.read_tree.Goals as goal

pub returns-in-Ok-clause-accepted : goal.returns-in-Ok-clause-accepted
returns-in-Ok-clause-accepted c =
    at_tree_end (view c.args.info.now) (view c.in-Some.tree.now) c.in-Some.ensures c.in-Ok.ensures.accepted

pub returns-in-Err-clause-refused : goal.returns-in-Err-clause-refused
returns-in-Err-clause-refused c =
    let info = view c.args.info.now in
    let tree = view c.in-Some.tree.now in
    ⊎_elim
    (λ named. inr (subst (λ refusal. Names (first_of_tree info) refusal) (sym c.from.ensures)
    (at_tree_fault info tree c.in-Err.fault c.in-Some.ensures named)))
    (λ memory. inl (c.from.ensures ∙ ap of_tree_fault memory)) c.in-Err.ensures.refused
