-- An index past the end has no mark.
use Rattle.std.proofs.lemmas.Bool.{le-ltb}
use Rattle.std.proofs.lemmas.Option.{slice_get_past, unwrap_or-slice_get}
use Rattle.tor_check.proofs.Names.{◌∙◌, ap, false, sym, unwrap_or}
use Rattle.tor_check.proofs.layer_roots.is_marked.Goals as goal

pub returns-then-index-judged : goal.returns-then-index-judged
returns-then-index-judged c = sym (unwrap_or-slice_get c.args.judged.now c.args.index false)

pub returns-else-index-judged : goal.returns-else-index-judged
returns-else-index-judged c =
    let past = slice_get_past c.args.judged.now c.args.index c.if-index-judged.false in
    le-ltb _ _ c.if-index-judged.false ∙ sym (ap (λ mark. unwrap_or mark false) past)
