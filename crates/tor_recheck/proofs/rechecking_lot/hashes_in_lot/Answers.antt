-- its own files, and what its pieces hash to
use Rattle.tor_recheck.proofs.Names.{◌∙◌, ℕ, ap, arith, length, ones, option_map, refl, subst, sym}
use Rattle.tor_recheck.proofs.Names.{[], IsFault, IsGiven, IsGivenPieces, PlanFacts, of_engine_error}
use Rattle.tor_recheck.proofs.LotAnswers.{fault_is, hashes_counted, hashes_found, named_in_lot, same_fault}
use Rattle.tor_recheck.proofs.LotGiven.{given_own, of_own}
use Rattle.tor_recheck.proofs.RecheckFaults.{given_of}
use Rattle.tor_recheck.proofs.Rechecked.{count_is}
use Rattle.tor_recheck.specs.Lots.{IsOfLot, first_lot_fault}
use Rattle.tor_recheck.specs.steps.Lots.{own_answers, own_facts}
use Rattle.tor_recheck.proofs.rechecking_lot.hashes_in_lot.Goals as goal

-- sixteen pieces are a span
pub plan_of-requires : goal.plan_of-requires
unfolding ones
plan_of-requires g c = (refl, omega arith, omega arith)

pub returns-clause-hashed : goal.returns-clause-hashed
returns-clause-hashed g c = λ facts steady.
    let view = c.args.torrent.now in
    let range = c.range_of_lot-from.ensures in
    let own = c.deref.result.now in
    let own_is = c.deref.ensures.value ∙ c.in_ok-own.ensures in
    let fault = c.in-Err.ensures.hashed (own_facts own facts) (facts, steady, refl) in
    subst (λ error. IsFault (first_lot_fault facts view c.args.lots c.args.lot) error) (sym c.into.ensures)
    (same_fault view c.in_ok-plan.ensures.cut c.args.lots c.args.lot c.range_of_lot-from.result.0
    c.range_of_lot-from.result.1 range.first range.after
    c.in_ok-plan.plan c.in_ok-plan.ensures.planned own own_is facts c.in-Err.error fault)

pub returns-in-Ok-clause-hashed : goal.returns-in-Ok-clause-hashed
returns-in-Ok-clause-hashed g c = λ facts steady.
    let view = c.args.torrent.now in
    let lots = c.args.lots in
    let lot = c.args.lot in
    let plan = c.in_ok-plan.plan in
    let cut = c.in_ok-plan.ensures.cut in
    let planned = c.in_ok-plan.ensures.planned in
    let from = c.range_of_lot-from.result.0 in
    let to = c.range_of_lot-from.result.1 in
    let range = c.range_of_lot-from.ensures in
    let own = c.deref.result.now in
    let own_is = c.deref.ensures.value ∙ c.in_ok-own.ensures in
    let found = c.in-Ok.ensures.hashed (own_facts own facts) (facts, steady, refl) in (
      hashes_found view cut lots lot from to range.first range.after plan planned own own_is facts
          c.in-Ok.found.hashes found.0,
      sym (fault_is view cut lots lot from to range.first range.after plan planned own own_is facts)
          ∙ ap (option_map of_engine_error) found.2,
    )

pub returns-in-Ok-clause-counted : goal.returns-in-Ok-clause-counted
returns-in-Ok-clause-counted g c =
    let range = c.range_of_lot-from.ensures in
    hashes_counted c.args.torrent.now c.in_ok-plan.ensures.cut c.args.lots c.args.lot c.range_of_lot-from.result.0
    c.range_of_lot-from.result.1 range.first range.after c.in_ok-plan.plan c.in_ok-plan.ensures.planned
    c.in-Ok.found.lengths.items c.in-Ok.found.hashes c.in-Ok.ensures.there

pub returns-clause-of_lot : goal.returns-clause-of_lot
returns-clause-of_lot g c =
    let view = c.args.torrent.now in
    let range = c.range_of_lot-from.ensures in
    let cut = c.in_ok-plan.ensures.cut in
    let planned = c.in_ok-plan.ensures.planned in
    let own = c.deref.result.now in
    let own_is = c.deref.ensures.value ∙ c.in_ok-own.ensures in
    let answers = g.S.Source.answers c.args.source.now in
    let files = ap (λ (p : PlanFacts). length p.lengths) planned ∙ count_is view [] cut in
    subst (λ error. IsOfLot view c.args.lots c.args.lot error) (sym c.into.ensures)
    (of_own own answers view c.args.lots c.args.lot (length view.files)
    (named_in_lot view cut c.args.lots c.args.lot c.range_of_lot-from.result.0 c.range_of_lot-from.result.1
    range.first range.after c.in_ok-plan.plan planned own own_is) c.in-Err.error
    (subst (λ (n : ℕ). IsGivenPieces (own_answers own answers) n c.in-Err.error) files c.in-Err.ensures.gave))

pub returns-clause-gave : goal.returns-clause-gave
returns-clause-gave g c =
    let view = c.args.torrent.now in
    let answers = g.S.Source.answers c.args.source.now in
    let files = ap (λ (p : PlanFacts). length p.lengths) c.in_ok-plan.ensures.planned
    ∙ count_is view [] c.in_ok-plan.ensures.cut in
    subst (λ error. IsGiven answers (length view.files) error) (sym c.into.ensures)
    (given_of answers (length view.files) c.in-Err.error
    (given_own c.deref.result.now answers (length view.files) c.in-Err.error
    (subst (λ (n : ℕ). IsGivenPieces (own_answers c.deref.result.now answers) n c.in-Err.error) files
    c.in-Err.ensures.gave)))
