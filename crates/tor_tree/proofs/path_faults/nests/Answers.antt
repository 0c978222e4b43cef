use Rattle.tor_tree.proofs.Cited.{◌≡◌, rules, not, starts_with, answers_always, name_eq}
use Rattle.tor_tree.proofs.SortedFiles.{nest_answer}
use Rattle.tor_tree.proofs.path_faults.nests.Goals as goal

pub returns : goal.returns
returns g c =
    nest_answer c.args.entries.now c.is_sorted_by.result c.requires
    (c.is_sorted_by.ensures.cases (λ x y. not (starts_with name_eq y.0 x.0))
    (answers_always _ (λ a r. r ≡ not (starts_with name_eq a.1.0.now.0 a.0.now.0)) _ (λ f a r g called. search rules)))
