-- the tree was fed what it had not got
use Rattle.std.proofs.lemmas.Grind.{common_steps}
use Rattle.std.proofs.Common.{◌∙◌, ap, arith, drop, refl}
use Rattle.tor_sums.proofs.Waiting.{tree_keeps}
use Rattle.tor_sums.proofs.worker.WorkerSums.feed_tree.Goals as goal

pub returns-in_ok-feed_tree-clause-keeps : goal.returns-in_ok-feed_tree-clause-keeps
returns-in_ok-feed_tree-clause-keeps c =
    tree_keeps c.args.self.now _ c.args.count c.split_at.result.1.now (omega (arith, c.if-self-count.true)) refl
    (c.split_at.ensures.back ∙ ap (drop c.args.self.now.treed) c.front.ensures.value) refl
    c.in_ok-feed_tree.ensures.fed

pub invariant_of-self-then-self-count : goal.invariant_of-self-then-self-count
invariant_of-self-then-self-count c = grind (arith, common_steps)
