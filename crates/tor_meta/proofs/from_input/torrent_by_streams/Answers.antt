-- Nothing was read before the order was judged.
use Rattle.std.proofs.Common.{List, ℕ, ◌≡◌, subst}
use Rattle.std.specs.Prelude.{IfErr, IfOk}
use Rattle.tor_meta.specs.FromInput.{MakesOf, StopsReading, stream_refusal_of}
use Rattle.tor_meta.proofs.from_input.torrent_by_streams.Goals as goal

pub returns-clause-made : goal.returns-clause-made
returns-clause-made g c =
    let remaining = g.R.Read.remaining in
    subst (λ (r : g.row.R.Denot). IfOk c.made_by_streams.result (λ torrent. (content : List ℕ)
    × MakesOf (stream_refusal_of c.args.order.now) c.args.order.now c.args.attr
    (remaining r) (remaining c.made_by_streams.new.reader)
    (λ bytes. torrent.items ≡ bytes) content))
    c.in-Ok.ensures.accepted.1 c.made_by_streams.ensures.made

pub returns-clause-stopped : goal.returns-clause-stopped
returns-clause-stopped g c =
    let remaining = g.R.Read.remaining in
    subst (λ (r : g.row.R.Denot). IfErr c.made_by_streams.result
    (StopsReading (stream_refusal_of c.args.order.now) (remaining r) (remaining c.made_by_streams.new.reader)))
    c.in-Ok.ensures.accepted.1 c.made_by_streams.ensures.stopped
