-- Which fault of the program a step's fault is.
use Rattle.std.proofs.KnownBytes.{Keeps-refl}
use Rattle.std.proofs.lemmas.Result.{err_from_is_err_and}
use Rattle.tor_cli.proofs.Stops.{stops_reading, stops_sent}
use Rattle.tor_cli.proofs.make.command.make_of_input.Goals as goal

pub returns-in_err-torrent-clause-stopped : goal.returns-in_err-torrent-clause-stopped
returns-in_err-torrent-clause-stopped g c =
    let p = err_from_is_err_and c.from_residual-in_err-torrent.result c.from_residual-in_err-torrent.ensures.1 in
    rw (p.1, p.2) (stops_reading c.args.options.now _ c.in-Ok.both.0 c.in-Ok.both.1 c.in-Ok.ensures.made
    c.in_err-torrent.field-0.0 c.in_err-torrent.ensures.stopped (Keeps-refl _))

pub returns-in_err-send-clause-stopped : goal.returns-in_err-send-clause-stopped
returns-in_err-send-clause-stopped g c =
    let p = err_from_is_err_and c.from_residual-in_err-send.result c.from_residual-in_err-send.ensures.1 in
    rw (p.1, p.2) (stops_sent c.args.options.now _ c.in-Ok.both.0 c.in-Ok.both.1 c.in-Ok.ensures.made
    c.in_ok-torrent.torrent.items c.in_ok-torrent.ensures.made c.in_err-send.field-0.0.written
    (rw c.deref.ensures.value at c.in_err-send.ensures.part))
