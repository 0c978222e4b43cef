-- Why there are no files is no fault of a byte.
use Rattle.std.proofs.Common.{option_map}
use Rattle.std.proofs.lemmas.Result.{err_from_is_err_and}
use Rattle.tor_cli.proofs.PlanFaults.{not_found_of_lengths}
use Rattle.tor_cli.proofs.make.command.files_to_make.Goals as goal

pub returns-in_err-found-clause-lengths : goal.returns-in_err-found-clause-lengths
returns-in_err-found-clause-lengths c =
    let p = err_from_is_err_and c.from_residual-in_err-found.result c.from_residual-in_err-found.ensures.1 in
    rw (p.1, p.2) (not_found_of_lengths _ _ _ c.in_err-found.field-0.0 c.in_err-found.ensures.stopped)
