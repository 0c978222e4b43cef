use Rattle.std.proofs.Common.{◌≡◌, rules}
use Rattle.std.specs.Ordering.{is_lt}
use Rattle.std.proofs.lemmas.List.Sorted.{answers_always}
use Rattle.tor_tree.specs.Path.{path_cmp}
use Rattle.tor_meta.proofs.RisingPaths.{rising_answer}
use Rattle.tor_meta.proofs.from_streams.are_rising.Goals as goal

pub returns : goal.returns
returns c =
    rising_answer c.args.paths.now c.is_sorted_by.result
    (c.is_sorted_by.ensures.cases (λ x y. is_lt (path_cmp x y))
    (answers_always _ (λ a r. r ≡ is_lt (path_cmp a.0.now a.1.0.now)) _ (λ f a r g called. search rules)))
