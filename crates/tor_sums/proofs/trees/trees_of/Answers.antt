-- one file more
use Rattle.std.proofs.Common.{◌≡◌, ◌+◌, ◌<◌, [], length, map, drop, get_or, arith, ap, sym, subst, ◌∙◌}
use Rattle.std.proofs.lemmas.List.{drop_more, get_or-map, length-map, map-append, take_all}
use Rattle.tor_merkle.specs.Layer.{piece_layer, root_of}
use Rattle.tor_sums.specs.Sums.{lists_of}
use Rattle.tor_sums.proofs.ByFile.{map_next}
use Rattle.tor_sums.proofs.trees.trees_of.Goals as goal

pub each-preserved : goal.each-preserved
each-preserved g c =
    let lengths = c.args.sizes.now in
    let i = c.each.size-index in
    let before = c.each.invariant in
    let files = c.each.files in
    let more = drop_more lengths i 0 c.each-test.true in
    record {
      may = c.in_ok-root.ensures.left (drop (i + 1) lengths) (subst (g.T.FileTrees.may_tell files) more before.may);
      told = λ p contents fit of.
          let told = before.told p contents fit of in
          let content = get_or contents i [] in
          let there : i < length contents =
          omega (arith, c.each-test.true, ap length fit, length-map contents length) in
          let same : length content ≡ get_or lengths i 0 =
          sym (get_or-map length contents i [] 0 there) ∙ ap (λ xs. get_or xs i 0) fit in
          let tree = c.in_ok-root.ensures.tree p content (drop (i + 1) contents) same
          (subst (g.T.FileTrees.are_of files p) (drop_more contents i [] there) told.0) in (
            tree.2,
            c.in_ok-push.ensures.items
                ∙ map_next root_of contents c.each.roots.items c.in_ok-root.root i there told.1 tree.0,
            ap lists_of c.in_ok-push-2.ensures.items ∙ map-append (λ layer. layer.items) c.each.layers.items _
                ∙ map_next (λ content. piece_layer content p) contents (lists_of c.each.layers.items) _ i there told.2
                tree.1,
          );
    }

pub each-init : goal.each-init
each-init g c = record {
  may = c.requires;
  told = λ p contents fit of. (of, c.in_ok-roots.ensures.items, ap lists_of c.in_ok-layers.ensures.items);
}

pub returns : goal.returns
returns g c = λ p contents fit of.
    let i = c.each.size-index in
    let told = c.each.invariant.told p contents fit of in
    let all = take_all i contents
    (omega (arith, c.each-test.false, ap length fit, length-map contents length)) in
    record {
      roots = told.1 ∙ ap (map root_of) all;
      layers = told.2 ∙ ap (map (λ content. piece_layer content p)) all;
    }
