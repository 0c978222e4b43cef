-- one after the other
use Rattle.std.proofs.lemmas.Grind.{common_steps}
use Rattle.std.proofs.Common.{◌∙◌, ◌++◌, ◌≤◌, length, take, ap, append-nil, arith, sym}
use Rattle.std.proofs.lemmas.List.{drop_all, take_all}
use Rattle.tor_sums.specs.steps.Owing.{paid_each}
use Rattle.tor_sums.proofs.PaidSums.{paid_more, paid_none}
use Rattle.tor_sums.proofs.paying.pay.Goals as goal

pub items-preserved : goal.items-preserved
items-preserved g c =
    let more = paid_more g.T.Owed.owed g.T.Owed.paid c.items.items c.items.item-index c.item-item.result
    c.items.rest.now (omega arith) c.take_own-rest.new.self c.take_own-rest.result.now _ _
    c.take_own-rest.ensures.paid c.take_own-rest.ensures.rest c.items.invariant.enough c.items.invariant.paid
    c.items.invariant.end in
    record { enough = more.0; paid = more.1; end = more.2 }

pub returns-clause-paid : goal.returns-clause-paid
returns-clause-paid g c =
    let items = c.items.items in
    let end : length items ≤ c.items.item-index = omega arith in
    sym (take_all c.items.item-index items end) ∙ sym (append-nil (take c.items.item-index items))
    ∙ ap (λ xs. take c.items.item-index items ++ xs) (sym (paid_none g.T.Owed.owed g.T.Owed.paid c.items.rest.now))
    ∙ ap (λ xs. take c.items.item-index items ++ paid_each g.T.Owed.owed g.T.Owed.paid xs c.items.rest.now)
    (sym (drop_all c.items.item-index items end))
    ∙ c.items.invariant.paid

pub take_own-rest-requires : goal.take_own-rest-requires
take_own-rest-requires g c = grind (arith, common_steps)

pub returns-clause-rest : goal.returns-clause-rest
returns-clause-rest g c = grind (arith, common_steps)
