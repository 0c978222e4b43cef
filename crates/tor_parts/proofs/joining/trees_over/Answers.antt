-- one file more, and all
use Rattle.std.proofs.Common.{◌+◌, [], ◌∷◌, ◌++◌, ap, drop, get_or, length, take, ◌∙◌}
use Rattle.std.proofs.lemmas.List.{length-take-le, map-append}
use Rattle.std.specs.Int.{div_ceil}
use Rattle.tor_sums.specs.Sums.{lists_of}
use Rattle.tor_parts.specs.Joining.{layer_over, layers_over, root_over, roots_over}
use Rattle.tor_parts.proofs.FileTrees.{all_layers, all_roots, left_counted, next_layers, next_roots}
use Rattle.tor_parts.proofs.FileTrees.{own_counted}
use Rattle.tor_parts.proofs.joining.trees_over.Goals as goal

pub files-preserved : goal.files-preserved
files-preserved c =
    let p = c.args.piece_length in
    let lengths = c.args.lengths.now in
    let hashes = c.args.hashes.now in
    let i = c.files.length-index in
    let rest = c.files.rest.now in
    let m = get_or lengths i 0 in
    let before = c.files.invariant in
    let root = c.root_over.ensures ∙ ap (root_over p m) c.own_of.ensures.own in
    let layer = c.in_ok-layer.ensures ∙ ap (layer_over p m) c.own_of.ensures.own in
    record {
      counted = ap length c.own_of.ensures.later ∙ left_counted p lengths rest i c.files-test.true before.counted;
      roots = ap (λ xs. xs ++ roots_over p (drop (i + 1) lengths) c.own_of.result.1.now)
          (c.in_ok-push.ensures.items ∙ ap (λ r. c.files.roots.items ++ r ∷ []) root)
          ∙ ap (λ hs. (c.files.roots.items ++ root_over p m (take (div_ceil m p) rest) ∷ [])
          ++ roots_over p (drop (i + 1) lengths) hs)
          c.own_of.ensures.later
          ∙ next_roots p lengths rest i c.files.roots.items (roots_over p lengths hashes) c.files-test.true
          before.roots;
      layers = ap (λ xs. xs ++ layers_over p (drop (i + 1) lengths) c.own_of.result.1.now)
          (ap lists_of c.in_ok-push-2.ensures.items ∙ map-append (λ layer. layer.items) c.files.layers.items _
          ∙ ap (λ l. lists_of c.files.layers.items ++ l ∷ []) layer)
          ∙ ap (λ hs. (lists_of c.files.layers.items ++ layer_over p m (take (div_ceil m p) rest) ∷ [])
          ++ layers_over p (drop (i + 1) lengths) hs) c.own_of.ensures.later
          ∙ next_layers p lengths rest i (lists_of c.files.layers.items) (layers_over p lengths hashes)
          c.files-test.true before.layers;
    }

pub returns : goal.returns
returns c =
    let p = c.args.piece_length in
    let lengths = c.args.lengths.now in
    let hashes = c.args.hashes.now in
    let i = c.files.length-index in
    let rest = c.files.rest.now in
    record {
      roots = all_roots p lengths rest i c.files.roots.items (roots_over p lengths hashes) c.files-test.false
          c.files.invariant.roots;
      layers = all_layers p lengths rest i (lists_of c.files.layers.items) (layers_over p lengths hashes)
          c.files-test.false c.files.invariant.layers;
    }

pub files-init : goal.files-init
files-init c =
    let p = c.args.piece_length in
    let lengths = c.args.lengths.now in
    let hashes = c.args.hashes.now in
    record {
      counted = c.requires.counted;
      roots = ap (λ xs. xs ++ roots_over p lengths hashes) c.in_ok-roots.ensures.items;
      layers = ap (λ xs. lists_of xs ++ layers_over p lengths hashes) c.in_ok-layers.ensures.items;
    }

pub own_of-requires-clause-there : goal.own_of-requires-clause-there
own_of-requires-clause-there c =
    own_counted c.args.piece_length c.args.lengths.now c.files.rest.now c.files.length-index c.files-test.true
    c.files.invariant.counted

pub root_over-requires-clause-small : goal.root_over-requires-clause-small
root_over-requires-clause-small c = c.requires.small c.files.length-index 0 c.files-test.true

pub root_over-requires-clause-counted : goal.root_over-requires-clause-counted
root_over-requires-clause-counted c =
    let p = c.args.piece_length in
    let lengths = c.args.lengths.now in
    let rest = c.files.rest.now in
    let i = c.files.length-index in
    ap length c.own_of.ensures.own
    ∙ length-take-le (div_ceil (get_or lengths i 0) p) rest
    (own_counted p lengths rest i c.files-test.true c.files.invariant.counted)
