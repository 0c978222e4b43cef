-- each file: a tree where it has several units
use Rattle.tor_plan.proofs.Names.{◌+◌, ◌/◌, ◌++◌, drop, get_or, arith, ap, ap₂, ◌∙◌, sum_by_more, div_ceil, trees_from}
use Rattle.tor_plan.proofs.Trees.{log2_is, one_tree, no_tree, trees-end}
use Rattle.tor_plan.proofs.forests.trees_of.Goals.{then-count-gt1+in_ok-push, else-count-gt1}
use Rattle.std.proofs.lemmas.Grind.{common_steps}
use Rattle.tor_plan.proofs.forests.trees_of.Goals as goal

pub files-preserved : goal.files-preserved
files-preserved c =
    let lengths = c.args.lengths.now in
    let i = c.files.length-index in
    let size = c.args.size in
    let first = c.files.first in
    let count = c.div_ceil-count.ensures in
    let rest = trees_from size (first + div_ceil (get_or lengths i 0) size) (drop (i + 1) lengths) in
    let level = log2_is (size / 16384) c.ilog2-level.result
    (omega (arith, c.requires.whole)) c.ilog2-level.ensures.power_le c.ilog2-level.ensures.next_power_gt in
    record {
      counted = ap₂ (λ a b. a + b) c.files.invariant.counted count
          ∙ (let e = sum_by_more (λ m. div_ceil m size) lengths i 0 c.files-test.true in omega (arith, e));
      all = ap (λ n. c.if-count-gt1.trees.items ++ trees_from size (first + n) (drop (i + 1) lengths)) count
          ∙ elim c.if-count-gt1.branch [
            | then-count-gt1+in_ok-push w ↦
                ap (λ v. v.items ++ rest) w.trees-is ∙ ap (λ xs. xs ++ rest) w.in_ok-push.ensures.items
                ∙ one_tree size first lengths i c.files.trees.items _ c.files-test.true c.files.invariant.all _
                (omega (arith, count, w.if-count-gt1.true))
                (ap₂ (λ n k. record { first = first; count = n; level = k }) count level)
            | else-count-gt1 w ↦
                ap (λ v. v.items ++ rest) w.trees-is
                ∙ no_tree size first lengths i c.files.trees.items _ c.files-test.true c.files.invariant.all
                (omega (arith, count, w.if-count-gt1.false))
          ];
    }

pub returns : goal.returns
returns c = trees-end c.args.size c.files.first c.args.lengths.now c.files.length-index c.files.trees.items _
    c.files-test.false c.files.invariant.all

pub overflow_add-first : goal.overflow_add-first
overflow_add-first c = grind (arith, common_steps)
