-- one file more, and all
use Rattle.std.proofs.Common.{◌≡◌, ◌∙◌, [], ◌∷◌, ◌++◌, None, ap, ap₂, arith, length, replicate}
use Rattle.std.proofs.lemmas.List.{map-append, replicate_more}
use Rattle.tor_sums.specs.Sums.{lists_of}
use Rattle.tor_parts.proofs.joining.no_trees.Goals as goal

pub files-preserved : goal.files-preserved
files-preserved c =
    let before = c.files.invariant in record {
      roots =
          c.in_ok-push.ensures.items ∙ ap (λ xs. xs ++ None ∷ []) before.roots
          ∙ replicate_more c.files.counter None;
      layers =
          ap lists_of c.in_ok-push-2.ensures.items
          ∙ map-append (λ layer. layer.items) c.files.layers.items (c.new.result ∷ [])
          ∙ ap₂ (λ xs x. xs ++ x ∷ []) before.layers c.new.ensures.items
          ∙ replicate_more c.files.counter [];
    }

pub returns : goal.returns
returns c =
    let all = c.files-test.false in
    let most = c.files.auto.counter-end in
    let same : c.files.counter ≡ length c.args.lengths.now = omega (arith, all, most) in record {
      roots = c.files.invariant.roots ∙ ap (λ n. replicate n None) same;
      layers = c.files.invariant.layers ∙ ap (λ n. replicate n []) same;
    }
