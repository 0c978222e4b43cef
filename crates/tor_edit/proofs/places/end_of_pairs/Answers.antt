use Rattle.tor_edit.proofs.Names.{◌∙◌, ap, arith, view}
use Rattle.tor_edit.proofs.ByIndex.{end_at}
use Rattle.tor_edit.proofs.places.end_of_pairs.Goals as goal

pub returns : goal.returns
returns c =
    ap (λ span. span.1) c.unwrap_or-end.ensures
    ∙ end_at c.args.pairs.now c.args.count c.index-pairs-count.result (view c.args.root.now) c.span_of_key.result
    c.requires.lawful.keys c.requires.seen (omega arith) c.requires.within c.span_of_key.ensures
