-- the trees over the units of a plan
use Rattle.std.proofs.Common.{◌≡◌, ◌≤◌, ℕ, ◌*◌, ◌^◌, Option, List, true, length, map, ap, refl, subst, ◌∙◌, sym}
use Rattle.std.proofs.lemmas.List.Elements.{recursion_from_All}
use Rattle.std.specs.Prelude.{All}
use Rattle.std.specs.List.{flat_map}
use Rattle.tor_plan.specs.Forest.{trees_from}
use Rattle.tor_plan.specs.PlanFacts.{PlanFacts}
use Rattle.tor_tree.specs.Kinds.{has_v2}
use Rattle.tor_sums.specs.steps.Hashes.{IsCut, level_of, nodes_of_file}
use Rattle.tor_sums.specs.steps.Roots.{roots_of_trees}
use Rattle.tor_sums.specs.steps.Run.{node_in}
use Rattle.tor_sums.proofs.FileHashes.{unit_nodes_of_files}
use Rattle.tor_sums.proofs.PlanLevels.{plan_is_cut, plan_level, trees_of_plan}
use Rattle.tor_sums.proofs.sums.trees_of_plan.Goals as goal

pub trees_of-requires : goal.trees_of-requires
trees_of-requires c =
    let planned = c.requires.planned in
    let same = c.requires.lengths ∙ ap (λ (plan : PlanFacts). plan.lengths) planned.made in (
      λ k at. (plan_level c.args.plan.now planned k
          (ap level_of (sym (c.deref.ensures.value ∙ c.forest.ensures.value)) ∙ sym c.level_of.ensures ∙ at)).1.1,
      recursion_from_All (λ size. size ≤ 2 ^ 50) c.args.lengths.now
          (subst (All (λ (size : ℕ). size ≤ 2 ^ 50)) (sym same) planned.is_list.files),
    )

pub returns : goal.returns
returns c = λ contents fit nodes_are.
    let plan = c.args.plan.now in
    let p = plan.piece_length in
    let trees : has_v2 plan.kind ≡ true = cc in
    let of_files = nodes_are trees ∙ unit_nodes_of_files plan contents c.requires.planned trees fit in
    let size = c.requires.planned.span * p in
    let level : level_of plan.trees ≡ c.level_of.result = cc in (
      trees,
      c.in_ok-trees.ensures p contents (fit ∙ sym c.requires.lengths) (record {
        size = size;
        cut = subst (λ (l : Option ℕ). IsCut p size l (map length contents)) level
            (subst (λ (lengths : List ℕ). IsCut p size (level_of plan.trees) lengths) (sym fit)
            (plan_is_cut plan c.requires.planned trees));
        nodes = subst (λ (l : Option ℕ). map node_in c.args.units.now ≡ flat_map (nodes_of_file p size l) contents)
            level of_files;
        units = c.args.units.now;
        before = 0;
        left = refl;
        trees = c.requires.tops ∙ ap (roots_of_trees (map (λ unit. unit.hash) c.args.units.now))
            (trees_of_plan plan c.requires.planned trees ∙ ap (trees_from size 0) (sym fit));
      }),
    )
