use Rattle.std.proofs.lemmas.Grind.{common_steps}
use Rattle.{std.proofs.lemmas.List.{append-nil, append_assoc, at_drop_all}, tor_board.proofs.Names.{List, Run, Tree}}
use Rattle.tor_board.proofs.{Names.{[], ap, arith, drop, get_or, sym, units_in, ◌++◌, ◌+◌, ◌∙◌, ◌∷◌, ◌≡◌}, Opening.laid}
use Rattle.tor_board.proofs.Apart.{few_units}
use Rattle.tor_board.{proofs.Opening.{low_count, next_run, no_run, no_tree, tree_there}, specs.steps.Row.trees_from}
use Rattle.tor_merkle.specs.Subtree.{height}
use Rattle.tor_board.proofs.open.trees_of.Goals as goal

pub height_of-requires : goal.height_of-requires
height_of-requires c = let runs = c.args.runs.now in let k = c.runs.run-index in let run : Run = get_or runs k no_run in
    low_count run (c.requires.runs.each k run (next_run runs k c.runs-test.true).1).low

pub overflow_add-offset : goal.overflow_add-offset
overflow_add-offset c = let runs = c.args.runs.now in let r = next_run runs c.runs.run-index c.runs-test.true in
    omega (
      arith,
      few_units c.args.units runs c.requires.runs,
      c.runs.invariant.units_in_trees,
      ap units_in r.0,
      c.requires.units,
    )

pub runs-preserved : goal.runs-preserved
runs-preserved c = let runs = c.args.runs.now in let i = c.runs.invariant in let k = c.runs.run-index in
    let n = c.runs.number in let o = c.runs.offset in let before = c.runs.trees.items in
    let run : Run = get_or runs k no_run in let rest = drop (k + 1) runs in
    let r = next_run runs k c.runs-test.true in
    let tree : Tree = laid n o run (height run.count) in
    let pushed : c.push.new.self.items ≡ before ++ tree ∷ [] = grind arith in record {
      trees = let joined = append_assoc before (tree ∷ []) (trees_from (n + 1) (o + run.count) rest) in
          rw (pushed, joined, sym (tree_there n o run rest), sym r.0) i.trees;
      units_in_trees = omega (arith, i.units_in_trees, ap units_in r.0);
      counted = omega (arith, i.counted);
    }

pub returns-clause-trees : goal.returns-clause-trees
returns-clause-trees c = let i = c.runs.invariant in let before = c.runs.trees.items in
    let end = at_drop_all (λ (l : List Run). l) c.args.runs.now c.runs.run-index c.runs-test.false in
    sym (append-nil before) ∙ (ap (λ (l : List Tree). before ++ l)
    (sym (ap (trees_from c.runs.number c.runs.offset) end ∙ no_tree c.runs.number c.runs.offset)) ∙ i.trees)

pub returns-clause-units_in_trees : goal.returns-clause-units_in_trees
returns-clause-units_in_trees c = grind (arith, common_steps)
