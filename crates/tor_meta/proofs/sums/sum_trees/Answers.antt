-- one more content, and all of them
use Rattle.std.proofs.Common.{◌≡◌, ◌∙◌, ◌+◌, ◌<◌, ◌++◌, ◌∷◌, [], ℕ, Bor, List, ap, get_or, length, map, sym, take}
use Rattle.std.proofs.lemmas.List.{map-append, map_more, take_all}
use Rattle.tor_merkle.specs.Layer.{piece_layer, root_of}
use Rattle.tor_meta.specs.steps.Contents.{bytes_of}
use Rattle.tor_sums.specs.Sums.{lists_of}
use Rattle.tor_meta.proofs.ListSteps.{taken_more}
use Rattle.tor_meta.proofs.sums.sum_trees.Goals as goal

-- the sum of one content more
sums_more : {Y : Type 0} (sum : List ℕ → Y) (contents : List (Bor (List ℕ))) (i : ℕ) (d : Bor (List ℕ))
    (old : List Y) (y : Y) → i < length contents → old ≡ map sum (bytes_of (take i contents))
    → y ≡ sum (get_or contents i d).now → old ++ y ∷ [] ≡ map sum (bytes_of (take (i + 1) contents))
sums_more sum contents i d old y within before same =
    taken_more sum (bytes_of (take i contents)) (get_or contents i d).now old y before same
    ∙ ap (map sum) (sym (map_more (λ content. content.now) contents i d within))

pub loop-content-preserved : goal.loop-content-preserved
loop-content-preserved c =
    let contents = c.args.contents.now in
    let i = c.loop-content.content-index in
    let layer = c.in_ok-root.layer in record {
      rooted = c.in_ok-push.ensures.items
          ∙ sums_more root_of contents i _ c.loop-content.roots.items c.in_ok-root.root c.loop-content-test.true
          c.loop-content.invariant.rooted c.in_ok-root.ensures.root;
      layered = ap lists_of c.in_ok-push-2.ensures.items
          ∙ map-append (λ layer. layer.items) c.loop-content.layers.items (layer ∷ [])
          ∙ sums_more (λ content. piece_layer content c.args.piece_length) contents i _
          (lists_of c.loop-content.layers.items) layer.items c.loop-content-test.true
          c.loop-content.invariant.layered c.in_ok-root.ensures.layer;
    }

pub returns-clause-roots : goal.returns-clause-roots
returns-clause-roots c =
    rw (take_all c.loop-content.content-index c.args.contents.now c.loop-content-test.false)
    at c.loop-content.invariant.rooted

pub returns-clause-layers : goal.returns-clause-layers
returns-clause-layers c =
    rw (take_all c.loop-content.content-index c.args.contents.now c.loop-content-test.false)
    at c.loop-content.invariant.layered
