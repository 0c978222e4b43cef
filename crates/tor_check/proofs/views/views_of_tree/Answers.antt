-- one more file, with its layer
use Rattle.std.proofs.lemmas.Grind.{common_steps}
use Rattle.tor_check.proofs.Kept.{kept_everywhere}
use Rattle.tor_check.proofs.Names.{◌∙◌, ap, arith, subst, sym, length, length-replicate, None, seen, IsKept, IsShared}
use Rattle.tor_check.proofs.views.views_of_tree.Goals as goal

pub files-preserved : goal.files-preserved
files-preserved c = grind (arith, common_steps)

-- no layer is kept yet
pub files-init : goal.files-init
files-init c =
    let layers = seen c.args.layers.now in
    let none = c.as_mut_slice-shared.ensures.value ∙ c.in_ok-memory.ensures in
    record {
      told = c.in_ok-views.ensures.items;
      one_each = ap length none ∙ length-replicate _ _ ∙ c.count_layers.ensures;
      shared = subst (IsKept (IsShared layers) layers) (sym none)
          (kept_everywhere (IsShared layers) layers c.count_layers.result None (λ _. tt));
    }
