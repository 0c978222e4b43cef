-- one hash more, and all
use Rattle.std.proofs.Common.{[], ◌∷◌, ◌++◌, ◌∙◌, ap, ap₂, map, sym, take}
use Rattle.std.proofs.lemmas.List.{map-append, take_all, take_more}
use Rattle.tor_engine.proofs.workers.roots.hashes_of.Goals as goal

pub sums-preserved : goal.sums-preserved
sums-preserved g c =
    let hash = g.W.UnitWork.hash_in c.args.work.now in
    let i = c.sums.one-index in
    let sums = c.args.sums.now in
    c.in_ok-push.ensures.items
    ∙ ap₂ (λ hashes last. hashes ++ last ∷ []) c.sums.invariant (c.hash_of.ensures ∙ ap hash c.one-item.is)
    ∙ sym (map-append hash (take i sums) (_ ∷ []))
    ∙ ap (map hash) (sym (take_more sums i _ c.sums-test.true))

pub returns : goal.returns
returns g c =
    c.sums.invariant
    ∙ ap (map (g.W.UnitWork.hash_in c.args.work.now)) (take_all c.sums.one-index c.args.sums.now c.sums-test.false)
