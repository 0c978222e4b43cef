-- The sums were fed what was read.
use Rattle.std.proofs.Common.{rules, [], subst}
use Rattle.tor_source.specs.Input.{ReadsWhole}
use Rattle.tor_meta.proofs.from_input.torrent_from.Goals as goal

pub make_fed-requires-clause-fed : goal.make_fed-requires-clause-fed
make_fed-requires-clause-fed g c =
    let input = c.in_ok-read_parts.ensures.whole in
    let head = c.in_ok-head.head in
    (input.0, input.3 head.kind head.piece_length [] c.new-fed.ensures.fed)

pub returns-clause-made : goal.returns-clause-made
returns-clause-made g c =
    let remaining = g.R.Read.remaining in
    let input = c.in_ok-read_parts.ensures.whole in
    let head = c.in_ok-head.head in
    let accepted = c.in_ok-head.ensures.accepted in
    let fed = input.3 head.kind head.piece_length [] c.new-fed.ensures.fed in (
      input.0,
      record {
        read = (
          subst (λ (r : g.row.R.Denot). ReadsWhole (remaining r) (remaining c.read_parts.new.reader) input.0)
              accepted.1 input.2,
          input.1,
        );
        accepted = accepted.0;
        torrent = search rules;
      },
    )
