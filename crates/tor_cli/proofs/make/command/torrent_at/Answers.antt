-- An error of making is of the order and the paths. No torrent is empty.
use Rattle.std.proofs.Common.{option_map}
use Rattle.std.proofs.lemmas.Result.{err_from_is_err_and}
use Rattle.tor_meta.specs.Order.{settings_of_order}
use Rattle.tor_cli.proofs.Sizes.{some_have_bytes}
use Rattle.tor_cli.proofs.Stops.{finding_make}
use Rattle.tor_cli.proofs.make.command.torrent_at.Goals as goal

pub returns-in_err-torrent_of-clause-stopped : goal.returns-in_err-torrent_of-clause-stopped
returns-in_err-torrent_of-clause-stopped g c =
    let options = c.args.options.now in
    let why = c.in_err-torrent_of.ensures in
    let chosen = option_map (λ paths. paths.items) c.args.chosen in
    let p =
    err_from_is_err_and c.from_residual-in_err-torrent_of.result c.from_residual-in_err-torrent_of.ensures.1 in
    rw (p.1, p.2) (finding_make options chosen c.in_ok-found.order c.in_ok-found.found.files.items
    c.in_err-torrent_of.field-0.0 c.in_ok-found.ensures.ordered why.only why.refused why.gave)

pub returns-clause-some : goal.returns-clause-some
returns-clause-some g c =
    some_have_bytes (settings_of_order c.in_ok-found.order) c.in_ok-found.found.files.items
    c.in_ok-torrent_of.field-0.items c.in_ok-torrent_of.ensures.whole
