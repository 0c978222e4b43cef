use Rattle.tor_tree.proofs.Cited.{◌+◌, arith, ◌∙◌, ap, sym}
use Rattle.tor_tree.proofs.Lengths.{rounded, too_large_here, sum_with, none_over_with}
use Rattle.tor_tree.proofs.lists.is_too_large.Goals as goal

pub returns-in-None : goal.returns-in-None
returns-in-None c =
    too_large_here (λ f. f.1) c.args.files.now c.loop-length.length-index c.loop-length-item.result
    (omega arith) c.loop-length-item.is c.loop-length.total c.loop-length.invariant.0 c.in-None.ensures

pub loop-length-preserved : goal.loop-length-preserved
loop-length-preserved c =
    let sum = sum_with (λ f. f.1) c.args.files.now c.loop-length.length-index c.loop-length-item.result
    (omega arith) c.loop-length-item.is in
    let none = none_over_with (λ f. f.1) c.args.files.now c.loop-length.length-index c.loop-length-item.result
    (omega arith) c.loop-length-item.is in (
      c.in-Some.ensures.0 ∙ ap (λ n. n + rounded c.loop-length-item.result.1) c.loop-length.invariant.0 ∙ sym sum,
      c.in-Some.ensures.2,
      none c.in-Some.ensures.1 c.loop-length.invariant.2,
    )
