-- each unit gets what is owed to it
use Rattle.std.proofs.Common.{◌∙◌, List, ap, arith, length, map, refl, subst, sum_by, sym}
use Rattle.tor_sums.specs.declared.unit_sums.UnitSums.{UnitSums}
use Rattle.tor_sums.specs.steps.Each.{SumUpEach}
use Rattle.tor_sums.specs.steps.Owing.{owed_to_unit, paid_each, paid_one}
use Rattle.tor_sums.specs.steps.Run.{OwesUnit, SumsUpUnit}
use Rattle.tor_engine.specs.steps.Taken.{pair_in}
use Rattle.tor_sums.proofs.PaidSums.{can_pay, paid_alike, paid_up, unit_settled}
use Rattle.tor_sums.proofs.WholeSlice.{written_whole}
use Rattle.tor_engine.proofs.Unsummed.{paid_length}
use Rattle.tor_engine.proofs.sum_work.SumWorkUnitWork.complete.Goals as goal

pub pay-requires : goal.pay-requires
pay-requires g c =
    let work = c.args.self.now in
    let stands = c.requires.stands.1 in
    let same = ap length
    (c.deref.ensures.value ∙ c.finish-owed.ensures work.plan.now stands.0 c.requires.begin stands.1) in
    let items = ap (sum_by owed_to_unit) c.as_mut_slice.ensures.value in
    let total = can_pay owed_to_unit paid_one (OwesUnit (g.S.FileBytes.is_steady work.source.now) work.plan.now)
    (λ unit one own owes. owes.1) c.requires.stands.0 c.args.sums.now.items stands.0 stands.2 in
    omega (arith, same, items, total)

pub returns-clause-summed : goal.returns-clause-summed
returns-clause-summed g c = λ units stands.
    let work = c.args.self.now in
    let is_steady = g.S.FileBytes.is_steady work.source.now in
    let old = c.args.sums.now in
    let same = c.deref.ensures.value ∙ c.finish-owed.ensures work.plan.now stands.0 c.requires.begin stands.1 in
    let paid = c.pay.ensures.paid
    ∙ ap (λ xs. paid_each owed_to_unit paid_one xs c.deref.result.now) c.as_mut_slice.ensures.value
    ∙ ap (paid_each owed_to_unit paid_one old.items) same in
    let long = ap length paid ∙ paid_length owed_to_unit paid_one old.items stands.0 in
    subst (λ (sums : List UnitSums). SumUpEach (SumsUpUnit is_steady work.plan.now) units sums)
    (sym (written_whole old.items c.pay.new.items old.len long old.ok.0 ∙ paid))
    (paid_up owed_to_unit paid_one (OwesUnit is_steady work.plan.now) (λ unit one own owes. owes.1)
    (SumsUpUnit is_steady work.plan.now) (unit_settled is_steady work.plan.now) units old.items stands.0 stands.2)

pub returns-clause-same : goal.returns-clause-same
returns-clause-same g c =
    let pair = pair_in (λ (sums : UnitSums). sums.unit) (λ sums. sums.hash) in
    let old = c.args.sums.now in
    let paid = c.pay.ensures.paid
    ∙ ap (λ xs. paid_each owed_to_unit paid_one xs c.deref.result.now) c.as_mut_slice.ensures.value in
    let long = ap length paid ∙ paid_length owed_to_unit paid_one old.items c.deref.result.now in
    ap (map pair) (written_whole old.items c.pay.new.items old.len long old.ok.0 ∙ paid)
    ∙ paid_alike owed_to_unit paid_one pair (λ one own. refl) old.items c.deref.result.now
