-- one tree more
use Rattle.std.proofs.Common.{◌++◌, ◌∷◌, Some, [], arith, ap, ap₂, get_or, sym, take, ◌∙◌}
use Rattle.std.proofs.lemmas.List.{map_more}
use Rattle.tor_merkle.specs.Stack.{padded_root}
use Rattle.tor_plan.specs.declared.forests.Run.{Run}
use Rattle.tor_sums.specs.steps.Roots.{root_of_run}
use Rattle.tor_engine.proofs.RunRoots.{fits, is_run}
use Rattle.tor_engine.proofs.workers.roots.roots_of_trees.Goals as goal

abbrev nothing : Run
nothing = record { first = 0; count = 0; level = 0 }

pub split_at-requires : goal.split_at-requires
split_at-requires c =
    let is = is_run c.args.hashes.now c.args.trees.now c.requires c.trees.run-index nothing c.trees-test.true in
    omega (arith, is.0)

pub split_at-requires-in-trees : goal.split_at-requires-in-trees
split_at-requires-in-trees c =
    let is = is_run c.args.hashes.now c.args.trees.now c.requires c.trees.run-index nothing c.trees-test.true in
    omega (arith, is.0, c.split_at.ensures.back_len)

pub layer_root-requires-clause-level : goal.layer_root-requires-clause-level
layer_root-requires-clause-level c =
    let is = is_run c.args.hashes.now c.args.trees.now c.requires c.trees.run-index nothing c.trees-test.true in
    omega (arith, is.2)

pub layer_root-requires-clause-some : goal.layer_root-requires-clause-some
layer_root-requires-clause-some c =
    let is = is_run c.args.hashes.now c.args.trees.now c.requires c.trees.run-index nothing c.trees-test.true in
    omega (arith, is.1, c.split_at-in-trees.ensures.front_len)

pub layer_root-requires-clause-small : goal.layer_root-requires-clause-small
layer_root-requires-clause-small c =
    let few = fits c.args.hashes.now c.args.trees.now c.requires c.trees.run-index nothing c.trees-test.true in
    omega (arith, few, c.split_at-in-trees.ensures.front_len)

pub trees-preserved : goal.trees-preserved
trees-preserved c =
    let trees = c.args.trees.now in
    let i = c.trees.run-index in
    let run = get_or trees i nothing in
    let own = c.split_at-in-trees.ensures.front ∙ ap (take run.count) c.split_at.ensures.back in
    c.in_ok-push.ensures.items
    ∙ ap₂ (λ roots root. roots ++ root ∷ []) c.trees.invariant
    (ap Some (c.layer_root.ensures ∙ ap (padded_root run.level) own))
    ∙ sym (map_more (root_of_run c.args.hashes.now) trees i nothing c.trees-test.true)
