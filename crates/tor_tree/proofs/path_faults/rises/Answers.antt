use Rattle.tor_tree.proofs.Cited.{◌≡◌, rules, is_lt, answers_always, path_cmp}
use Rattle.tor_tree.proofs.SortedFiles.{repeat_answer, rising_answer}
use Rattle.tor_tree.proofs.path_faults.rises.Goals as goal

pub returns-clause-value : goal.returns-clause-value
returns-clause-value g c =
    repeat_answer c.args.entries.now c.is_sorted_by.result c.requires
    (c.is_sorted_by.ensures.cases (λ x y. is_lt (path_cmp x.0 y.0))
    (answers_always _ (λ a r. r ≡ is_lt (path_cmp a.0.now.0 a.1.0.now.0)) _ (λ f a r g called. search rules)))

pub returns-clause-rising : goal.returns-clause-rising
returns-clause-rising g c =
    rising_answer c.args.entries.now c.is_sorted_by.result
    (c.is_sorted_by.ensures.cases (λ x y. is_lt (path_cmp x.0 y.0))
    (answers_always _ (λ a r. r ≡ is_lt (path_cmp a.0.now.0 a.1.0.now.0)) _ (λ f a r g called. search rules)))
