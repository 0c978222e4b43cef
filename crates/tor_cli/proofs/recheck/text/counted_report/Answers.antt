-- So many workers are allowed where something is found by them.
use Rattle.std.proofs.Common.{[], ◌≡◌, ◌∙◌, Bool, List, ap, refl, subst, sym, arith}
use Rattle.std.proofs.lemmas.Grind.{common_steps}
use Rattle.std.specs.Prelude.{OnOk}
use Rattle.tor_view.specs.declared.files.FileFound.{FileFound}
use Rattle.tor_view.specs.declared.files.FileState.TheVariants.{Link}
use Rattle.tor_cli.specs.recheck.FoundFiles.{with_state}
use Rattle.tor_cli.specs.steps.Reporting.{IsReportOf}
use Rattle.tor_sums.specs.How.{IsHow}
use Rattle.tor_sums.specs.declared.how.How.TheVariants.{Board}
use Rattle.tor_cli.proofs.Rechecking.{workers_allowed}
use Rattle.tor_cli.proofs.Reported.{printed_of}
use Rattle.tor_cli.proofs.recheck.text.counted_report.Goals as goal

pub returns-in-Ok-clause-workers : goal.returns-in-Ok-clause-workers
returns-in-Ok-clause-workers g c =
    let workers = c.args.options.now.workers in
    let told = c.recheck_files-rechecked in
    subst (λ result. OnOk result (IsHow (Board workers))) c.in-Ok.is
    (workers_allowed workers c.board_of-how.result told.result c.board_of-how.ensures told.ensures.workers)

pub returns-in-Ok-clause-reported : goal.returns-in-Ok-clause-reported
returns-in-Ok-clause-reported g c = λ text printed.
    let report = c.report_of.result in
    let found = c.in-Ok.found in
    record {
      found = found;
      each = c.in-Ok.ensures.counted.0;
      every = c.in-Ok.ensures.counted.1;
      there = c.in-Ok.ensures.there;
      unreadable = [];
      kept = λ off. refl;
      links = c.args.links.now;
      followed = c.requires;
      report = printed_of c.args.options.now c.args.judged.now.torrent c.args.judged.now.hashes found.bits _ report text
          (subst (λ (files : List FileFound). IsReportOf found.bits files report) c.with_links-files.ensures
          c.report_of.ensures) printed;
    }

of_both : {A B : Type 0} (P : A → B → Type 0) (a other : A) (b another : B) → a ≡ other → b ≡ another → P a b
    → P other another
of_both P a other b another same equal holds = subst (λ y. P other y) equal (subst (λ x. P x b) same holds)

pub returns-in-Ok-clause-found : goal.returns-in-Ok-clause-found
returns-in-Ok-clause-found g c allowed facts steady =
    let how = subst IsHow (sym c.board_of-how.ensures) allowed in
    let (bits, files, none) = c.in-Ok.ensures.found how facts steady in
    let linked = c.with_links-files.ensures ∙ ap (with_state Link c.args.links.now) files in
    let is = λ (bits : List Bool) (files : List FileFound). IsReportOf bits files c.report_of.result in
    (of_both is _ _ _ _ bits linked c.report_of.ensures, none)

pub returns-in-Err-clause-found : goal.returns-in-Err-clause-found
returns-in-Err-clause-found g c = grind (arith, common_steps)
