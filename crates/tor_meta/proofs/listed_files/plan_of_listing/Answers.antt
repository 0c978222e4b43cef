-- the plan is the torrent's
use Rattle.std.proofs.Common.{◌≡◌, ◌∙◌, ap, refl, subst, sym}
use Rattle.tor_meta.specs.Listing.{text_of_listing}
use Rattle.tor_meta.specs.Lots.{plan_of_text}
use Rattle.tor_meta.specs.steps.Sums.{IsPlanOf}
use Rattle.tor_plan.specs.PlanFacts.{PlanFacts}
use Rattle.tor_meta.proofs.listed_files.plan_of_listing.Goals as goal

pub returns-clause-same : goal.returns-clause-same
returns-clause-same c = rw (c.in_ok-plan.ensures, c.list-list.ensures.value, c.head.ensures, c.span.ensures) refl

pub returns-clause-is : goal.returns-clause-is
returns-clause-is c =
    let listing = c.args.listing.now in
    let same : c.in_ok-plan.plan ≡ plan_of_text (text_of_listing listing) =
    rw (c.in_ok-plan.ensures, c.list-list.ensures.value, c.head.ensures, c.span.ensures) refl in
    subst (λ (plan : PlanFacts). IsPlanOf listing.head listing.list.files plan) (sym same)
    c.plans_are_of_torrents.ensures.is

pub returns-clause-lengths : goal.returns-clause-lengths
returns-clause-lengths c =
    let same : c.in_ok-plan.plan ≡ plan_of_text (text_of_listing c.args.listing.now) =
    rw (c.in_ok-plan.ensures, c.list-list.ensures.value, c.head.ensures, c.span.ensures) refl in
    ap (λ (plan : PlanFacts). plan.lengths) same ∙ c.plans_are_of_torrents.ensures.is.lengths
