-- one more of each, and all
use Rattle.std.proofs.Common.{◌≡◌, [], ◌∷◌, ◌++◌, ◌∙◌, None, ap, ap₂, arith, replicate}
use Rattle.std.proofs.lemmas.List.{map-append, replicate-append-replicate}
use Rattle.tor_sums.specs.Sums.{lists_of}
use Rattle.tor_sums.proofs.sums.no_trees.Goals as goal

pub files-preserved : goal.files-preserved
files-preserved c =
    let n = c.files.counter in
    record {
      roots = c.in_ok-push.ensures.items ∙ ap (λ xs. xs ++ None ∷ []) c.files.invariant.roots
          ∙ replicate-append-replicate n 1 None;
      layers = ap lists_of c.in_ok-push-2.ensures.items
          ∙ map-append (λ layer. layer.items) c.files.layers.items (c.new.result ∷ [])
          ∙ ap₂ (λ xs x. xs ++ x ∷ []) c.files.invariant.layers c.new.ensures.items
          ∙ replicate-append-replicate n 1 [];
    }

pub returns : goal.returns
returns c =
    let all : c.files.counter ≡ c.args.count = omega (arith, c.files-test.false, c.files.auto.counter-end) in
    record {
      roots = c.files.invariant.roots ∙ ap (λ n. replicate n None) all;
      layers = c.files.invariant.layers ∙ ap (λ n. replicate n []) all;
    }
