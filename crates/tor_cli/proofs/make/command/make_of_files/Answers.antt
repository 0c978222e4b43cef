-- Nothing was written, or a front of the torrent.
use Rattle.std.proofs.Common.{inr, refl, option_map}
use Rattle.std.proofs.lemmas.Result.{err_from_is_err_and}
use Rattle.tor_cli.proofs.Stops.{stops_sending}
use Rattle.tor_cli.proofs.make.command.make_of_files.Goals as goal

pub returns-in_err-torrent-clause-stopped : goal.returns-in_err-torrent-clause-stopped
returns-in_err-torrent-clause-stopped g c reader =
    let p = err_from_is_err_and c.from_residual.result c.from_residual.ensures.1 in
    rw (p.1, p.2) (stops_sending c.args.options.now _ (option_map (λ paths. paths.items) c.args.chosen)
    c.in_err-torrent.field-0.0 c.in_err-torrent.ensures.stopped (refl {a = reader}, refl))

pub returns-in_err-send-clause-stopped : goal.returns-in_err-send-clause-stopped
returns-in_err-send-clause-stopped g c reader =
    let p = err_from_is_err_and c.from_residual-in_err-send.result c.from_residual-in_err-send.ensures.1 in
    let made = c.in_ok-torrent.ensures in
    rw (p.1, p.2) (inr (
      refl {a = reader},
      (c.in_ok-torrent.torrent.items, made.made, (rw c.deref.ensures.value at c.in_err-send.ensures.part) made.some),
    ))
