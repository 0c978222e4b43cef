-- the next file of a plan
use Rattle.std.proofs.Common.{◌≡◌, ◌+◌, ◌*◌, ◌^◌, length, map, min, take, drop, arith, ap, sym, ◌∙◌}
use Rattle.std.proofs.lemmas.List.{drop-drop}
use Rattle.std.specs.Int.{div_ceil}
use Rattle.tor_sums.specs.steps.Hashes.{nodes_of_file}
use Rattle.tor_sums.specs.steps.Run.{node_in}
use Rattle.tor_sums.proofs.ByFile.{enough_nodes, later_cut, later_nodes, one_cut, own_nodes}
use Rattle.tor_sums.proofs.FileNodes.{count_of_nodes, units_counted}
use Rattle.tor_sums.proofs.TreeRoots.{layer_of_own, next_root}
use Rattle.tor_sums.proofs.sums.PlannedTreesFileTrees.next.Goals as goal

pub returns-clause-tree : goal.returns-clause-tree
returns-clause-tree c = λ p content later same are.
    let level = c.args.self.now.level in
    let rest = c.args.self.now.rest.now in
    let size = are.size in
    let whole = div_ceil (length content) size in
    let one = one_cut p size level (length content) (map length later) are.cut in
    let counted : c.count_of_units-count.result ≡ whole =
    units_counted p size (length content) c.count_of_units-count.result level one
    (λ k at. c.count_of_units-count.ensures.several k at ∙ ap (λ n. div_ceil n (16384 * 2 ^ k)) (sym same))
    (λ none. c.count_of_units-count.ensures.one none ∙ ap (min 1) (sym same)) in
    let f = nodes_of_file p size level in
    let many : whole ≡ length (f content) = sym (count_of_nodes p size level content one) in
    let enough = enough_nodes f content later rest are.nodes _ (counted ∙ many) in
    let n : c.min.result ≡ whole = omega (arith, c.min.ensures, counted, enough) in
    let own = c.split_at.ensures.front ∙ ap (λ k. take k rest) n ∙ ap (take whole) are.left in
    let nodes = ap (map node_in) c.split_at.ensures.front
    ∙ own_nodes f content later rest are.nodes c.min.result (n ∙ many) in
    let next = next_root p size level content one are.units _ are.before own nodes c.args.self.now.tops.now _
    (map length later) _ are.trees c.root_of_file-root.ensures.none c.root_of_file-root.ensures.one
    c.root_of_file-root.ensures.several in (
      next.0,
      c.in_ok-layer.ensures ∙ layer_of_own p size level content one are.units _ are.before own nodes,
      record {
        size = size;
        cut = later_cut p size level (length content) (map length later) are.cut;
        nodes = ap (map node_in) c.split_at.ensures.back
            ∙ later_nodes f content later rest are.nodes c.min.result (n ∙ many);
        units = are.units;
        before = are.before + whole;
        left = c.split_at.ensures.back ∙ ap (λ k. drop k rest) n ∙ ap (drop whole) are.left
            ∙ drop-drop whole are.before are.units;
        trees = next.1;
      },
    )
