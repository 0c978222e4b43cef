-- What is told of the inventory, or a front of it, was written.
use Rattle.std.proofs.Common.{option_map}
use Rattle.std.proofs.lemmas.Result.{err_from_is_err_and}
use Rattle.tor_cli.proofs.Scanned.{not_told}
use Rattle.tor_cli.specs.Streams.{streams}
use Rattle.tor_cli.proofs.scan.command.scan.Goals as goal

pub returns-in_err-write_scan-clause-stopped : goal.returns-in_err-write_scan-clause-stopped
returns-in_err-write_scan-clause-stopped g c =
    let chosen = option_map (λ paths. paths.items) c.in_ok-chosen.chosen in
    let p =
    err_from_is_err_and c.from_residual-in_err-write_scan.result c.from_residual-in_err-write_scan.ensures.1 in
    rw (p.1, p.2) (not_told c.args.options.now
    (streams (g.R.Read.remaining c.args.reader.now) (g.R.Read.remaining c.chosen_files.new.reader)
    (g.W.Write.contents c.args.out.now) (g.W.Write.contents c.write_scan.new.out)) chosen c.in_ok-found.found
    c.in_err-write_scan.field-0.0 c.in_ok-chosen.ensures.chosen c.in_ok-found.ensures.found
    c.in_err-write_scan.ensures.stopped)

pub returns-clause-answered : goal.returns-clause-answered
returns-clause-answered g c = (
  option_map (λ paths. paths.items) c.in_ok-chosen.chosen,
  c.in_ok-found.found,
  c.in_ok-chosen.ensures.chosen,
  c.in_ok-found.ensures.found,
  (c.answer_of.ensures, c.in_ok-write_scan.ensures.printed),
)
