-- A fault is one of the lot's own files.
use Rattle.std.proofs.Common.{◌∙◌, ap, refl, subst, sym}
use Rattle.std.proofs.Common.{ℕ}
use Rattle.tor_meta.specs.JudgedPlan.{bytes_of_plan}
use Rattle.tor_meta.specs.Listing.{text_of_listing}
use Rattle.tor_parts.specs.OwnFiles.{IsGivenOwn}
use Rattle.tor_source.specs.Answers.{system_answers}
use Rattle.tor_tree.specs.FileList.{lengths_of}
use Rattle.tor_cli.specs.Status.{of_make_error}
use Rattle.tor_cli.specs.lots.Lots.{IsNoLot}
use Rattle.tor_cli.proofs.LotFaults.{no_lot}
use Rattle.tor_cli.proofs.lots.lot.lot_of_source.Goals as goal

pub returns-clause-stopped : goal.returns-clause-stopped
returns-clause-stopped g c =
    let plan = c.args.plan.now in
    let options = c.args.options.now in
    let gave = subst (λ (count : ℕ). IsGivenOwn (system_answers count) (lengths_of plan.listing.list.files) c.in-Err.error)
    c.requires.count c.in-Err.ensures.gave in
    subst (IsNoLot options (bytes_of_plan plan)) (sym (c.from-in-Err.ensures ∙ ap of_make_error c.from.ensures))
    (no_lot options (bytes_of_plan plan) c.requires.allowed c.in-Err.error (
      text_of_listing plan.listing,
      c.listing.ensures.lawful.told,
      refl,
      c.listing.ensures.lawful.accepted,
      (gave, c.in-Err.ensures.of_lot),
    ))

pub returns-in-Ok-clause-made : goal.returns-in-Ok-clause-made
returns-in-Ok-clause-made g c =
    let lawful = c.listing.ensures.lawful in
    (text_of_listing c.args.plan.now.listing, lawful.told, refl, lawful.accepted, c.in-Ok.ensures.whole)
