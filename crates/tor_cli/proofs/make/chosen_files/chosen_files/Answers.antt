-- Why the list was not read.
use Rattle.std.proofs.Common.{arith}
use Rattle.std.proofs.lemmas.Grind.{common_steps}
use Rattle.std.proofs.lemmas.Result.{err_from_is_err_and}
use Rattle.tor_cli.proofs.ChosenFiles.{not_read}
use Rattle.tor_cli.proofs.make.chosen_files.chosen_files.Goals as goal

pub returns-in_err-bytes-clause-stopped : goal.returns-in_err-bytes-clause-stopped
returns-in_err-bytes-clause-stopped g c =
    let p = err_from_is_err_and c.from_residual.result c.from_residual.ensures.1 in
    rw (c.in-Some.is, p.1, p.2) (not_read c.in-Some.word.now _ _ c.in_err-bytes.field-0.0 c.in_err-bytes.ensures.stopped)

pub returns-in_err-in_order-clause-stopped : goal.returns-in_err-in_order-clause-stopped
returns-in_err-in_order-clause-stopped g c = grind (arith, common_steps)
