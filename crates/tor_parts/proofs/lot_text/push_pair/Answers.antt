-- one pair more
use Rattle.std.proofs.Common.{◌∙◌, ap}
use Rattle.tor_bencode.specs.View.{pairs_view, view}
use Rattle.tor_parts.proofs.LotPairs.{pairs_view-push}
use Rattle.tor_parts.specs.steps.Pairs.{with_pair}
use Rattle.tor_parts.proofs.lot_text.push_pair.Goals as goal

pub returns : goal.returns
returns c =
    ap pairs_view c.in_ok-push.ensures.items
    ∙ pairs_view-push c.args.pairs.now.items (c.in_ok-key.key, c.args.value)
    ∙ ap (λ key. with_pair (pairs_view c.args.pairs.now.items) key (view c.args.value)) c.in_ok-key.ensures.items
