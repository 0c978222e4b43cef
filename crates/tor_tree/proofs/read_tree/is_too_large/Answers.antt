use Rattle.tor_tree.proofs.Cited.{◌≡◌, ◌+◌, ◌∙◌, ap, sym, unsigned_abs, arith, rules, DescribedFile}
use Rattle.tor_tree.proofs.Lengths.{rounded, too_large_here, sum_with, none_over_with}
use Rattle.tor_tree.proofs.read_tree.is_too_large.Goals as goal

pub returns-in-None : goal.returns-in-None
returns-in-None c =
    too_large_here (λ (entry : DescribedFile). unsigned_abs entry.properties.length) c.args.entries.now c.loop-entry.entry-index
    c.entry-item.result (omega arith) c.entry-item.is c.loop-entry.total c.loop-entry.invariant.0 (search rules)

pub loop-entry-preserved : goal.loop-entry-preserved
loop-entry-preserved c =
    let sum = sum_with (λ (entry : DescribedFile). unsigned_abs entry.properties.length) c.args.entries.now
    c.loop-entry.entry-index c.entry-item.result (omega arith) c.entry-item.is in
    let none = none_over_with (λ (entry : DescribedFile). unsigned_abs entry.properties.length) c.args.entries.now
    c.loop-entry.entry-index c.entry-item.result (omega arith) c.entry-item.is in
    let absolute : c.unsigned_abs.result ≡ unsigned_abs c.entry-item.result.properties.length = search rules in (
      c.in-Some.ensures.0 ∙ ap (λ n. c.loop-entry.total + rounded n) absolute
          ∙ ap (λ n. n + rounded (unsigned_abs c.entry-item.result.properties.length)) c.loop-entry.invariant.0
          ∙ sym sum,
      c.in-Some.ensures.2,
      none (search rules) c.loop-entry.invariant.2,
    )
