-- The paths at a place rise, and why there are none is the place's or the letters'.
use Rattle.std.proofs.Common.{option_map}
use Rattle.std.proofs.lemmas.Result.{err_from_is_err_and}
use Rattle.tor_cli.proofs.LetteredPaths.{found_rise}
use Rattle.tor_cli.proofs.make.from_place.files_at.Goals as goal

pub lettered_files-requires : goal.lettered_files-requires
lettered_files-requires c =
    found_rise c.args.name.now c.in_ok-placed.placed.single c.in_ok-placed.placed.paths.items
    c.in_ok-placed.ensures.paths.found

pub returns-in_err-placed-clause-stopped : goal.returns-in_err-placed-clause-stopped
returns-in_err-placed-clause-stopped c =
    let p = err_from_is_err_and c.from_residual.result c.from_residual.ensures.1 in
    rw (p.1, p.2) (c.in_err-placed.ensures.stopped (option_map (λ place. place.now) c.args.attrs))
