-- Some files are unreadable, and some are links.
use Rattle.std.proofs.Common.{ap, map, subst, sym, true≢false, ◌∙◌, List, arith}
use Rattle.std.proofs.lemmas.Grind.{common_steps}
use Rattle.tor_view.specs.declared.files.FileFound.{FileFound}
use Rattle.tor_view.specs.declared.files.FileState.TheVariants.{Link, Unreadable}
use Rattle.tor_sums.specs.How.{IsHow}
use Rattle.tor_cli.specs.recheck.FoundFiles.{with_state}
use Rattle.tor_cli.specs.steps.Reporting.{IsReportOf}
use Rattle.tor_cli.proofs.Reported.{printed_of}
use Rattle.tor_cli.proofs.recheck.text.readable_report.Goals as goal

pub returns-in-Ok-clause-reported : goal.returns-in-Ok-clause-reported
returns-in-Ok-clause-reported g c = λ text printed.
    let report = c.report_of.result in
    let found = c.in-Ok.told.found in
    let unreadable = c.with_unreadable.ensures ∙ ap (λ faults. with_state Unreadable (map (λ fault. fault.file) faults)
    found.files.items) c.deref.ensures.value in
    let marked = c.with_links-files.ensures ∙ ap (with_state Link c.args.links.now) unreadable in
    record {
      found = found;
      each = c.in-Ok.ensures.counted.0;
      every = c.in-Ok.ensures.counted.1;
      there = c.in-Ok.ensures.there;
      unreadable = map (λ fault. fault.file) c.in-Ok.told.faults.items;
      kept = λ off. absurd (true≢false (sym c.requires.kept ∙ off));
      links = c.args.links.now;
      followed = c.requires.followed;
      report = printed_of c.args.options.now c.args.judged.now.torrent c.args.judged.now.hashes found.bits _ report text
          (subst (λ (files : List FileFound). IsReportOf found.bits files report) marked c.report_of.ensures) printed;
    }

pub returns-in-Ok-clause-found : goal.returns-in-Ok-clause-found
returns-in-Ok-clause-found g c allowed facts steady =
    let how = subst IsHow (sym c.board_of-how.ensures) allowed in
    let found = c.in-Ok.told.found in
    let unreadable = c.with_unreadable.ensures ∙ ap (λ faults. with_state Unreadable (map (λ fault. fault.file) faults)
    found.files.items) c.deref.ensures.value in
    let marked = c.with_links-files.ensures ∙ ap (with_state Link c.args.links.now) unreadable in
    let (bits, files, faults) = c.in-Ok.ensures.found how facts steady in
    rw (sym bits, sym files, sym faults)
    (subst (λ (files : List FileFound). IsReportOf found.bits files c.report_of.result) marked c.report_of.ensures)

pub returns-in-Err-clause-found : goal.returns-in-Err-clause-found
returns-in-Err-clause-found g c = grind (arith, common_steps)
