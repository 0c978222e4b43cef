-- An error of planning is of the order and the paths. No plan is empty.
use Rattle.std.proofs.Common.{◌<◌, ◌∙◌, ℕ, List, ap, length, option_map, subst, sym}
use Rattle.std.proofs.lemmas.Result.{err_from_is_err_and}
use Rattle.tor_meta.specs.Make.{IsGivenTo}
use Rattle.tor_source.specs.Answers.{system_answers}
use Rattle.tor_tree.specs.declared.attr.Attr.{Attr}
use Rattle.tor_cli.specs.make.Request.{IsOrderOf}
use Rattle.tor_cli.proofs.PlanFaults.{error_of_lengths}
use Rattle.tor_cli.proofs.Sizes.{plan_has_bytes}
use Rattle.tor_cli.proofs.Stops.{finding_shared}
use Rattle.tor_cli.proofs.lots.plan.plan_at.Goals as goal

pub returns-in_err-make_plan-clause-stopped : goal.returns-in_err-make_plan-clause-stopped
returns-in_err-make_plan-clause-stopped c =
    let options = c.args.options.now.torrent in
    let order = c.in_ok-found.order in
    let files = c.deref.result.now in
    let error = c.in_err-make_plan.field-0.0 in
    let why = c.in_err-make_plan.ensures in
    let chosen = option_map (λ paths. paths.items) c.args.chosen in
    let ordered = subst (IsOrderOf options chosen order) (sym c.deref.ensures.value) c.in_ok-found.ensures.ordered in
    let each = c.in_ok-found.ensures.each ∙ sym (ap (λ (fs : List (List (List ℕ) × Attr)). length fs) c.deref.ensures.value) in
    let gave = subst (λ (count : ℕ). IsGivenTo (system_answers count) (length files) error) each why.gave in
    let p =
    err_from_is_err_and c.from_residual-in_err-make_plan.result c.from_residual-in_err-make_plan.ensures.1 in
    rw (p.1, p.2) (finding_shared options chosen _ c.args.options.now.shared order files error
    ordered why.only why.refused gave)

pub returns-clause-some : goal.returns-clause-some
returns-clause-some c =
    subst (λ (t : List ℕ). 0 < length t) (sym c.in_ok-make_plan.ensures.told.planned) (plan_has_bytes _)

pub returns-in_err-make_plan-clause-lengths : goal.returns-in_err-make_plan-clause-lengths
returns-in_err-make_plan-clause-lengths c =
    let p =
    err_from_is_err_and c.from_residual-in_err-make_plan.result c.from_residual-in_err-make_plan.ensures.1 in
    rw (p.1, p.2) (error_of_lengths c.in_err-make_plan.field-0.0 c.in_err-make_plan.ensures.lengths)
