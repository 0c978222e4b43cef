-- parts are not too long; the units are few, and whole blocks; the plan is that of the entries
use Rattle.tor_plan.proofs.Names.{rules, ◌*◌, ◌^◌, ◌<◌, ◌≤◌, sum_by, arith, ap, subst, sym, List, ℕ, ◌∙◌, inl, inr}
use Rattle.tor_plan.proofs.Names.{div_ceil, All, PlanUnit}
use Rattle.tor_plan.proofs.FileSizes.{plan_of_bytes}
use Rattle.tor_plan.proofs.Sizes.{few_units, piece_of_trees, whole_blocks}
use Rattle.tor_plan.proofs.WholeUnits.{whole_small, IsSmall}
use Rattle.tor_plan.proofs.plans.Plan.of_whole.Goals as goal

pub trees_of-requires : goal.trees_of-requires
trees_of-requires c =
    let is = c.requires.entries in
    let p = c.args.piece_length in
    let size = c.from.result * p in
    let least : 16384 ≤ p = elim c.in-V2.is [
      | inl is ↦ piece_of_trees c.args.kind p (inl is) c.requires.pieces
      | inr is ↦ piece_of_trees c.args.kind p (inr is) c.requires.pieces
    ] in
    let whole : 16384 ≤ size = whole_blocks c.from.result p (omega (arith, c.from.ensures, c.requires.span)) least in
    record {
      whole = whole;
      few = subst (λ (xs : List ℕ). sum_by (λ m. div_ceil m size) xs < 2 ^ 64)
          (sym (c.deref.ensures.value ∙ is.files))
          (omega (arith, few_units is.entries size is.is_list.total (omega (arith, whole))));
    }

pub cut_each-requires-clause-small : goal.cut_each-requires-clause-small
cut_each-requires-clause-small c =
    let is = c.requires.entries in
    subst (All IsSmall) (sym (c.as_slice.ensures ∙ ap (λ (u : PlanUnit). u.parts) is.bytes))
    (whole_small 0 is.entries is.is_list.files)

pub pieces-requires-clause-small : goal.pieces-requires-clause-small
pieces-requires-clause-small c =
    let is = c.requires.entries in
    subst (λ (u : PlanUnit). All IsSmall u.parts) (sym is.bytes) (whole_small 0 is.entries is.is_list.files)

pub invariant_of-result : goal.invariant_of-result
invariant_of-result c =
    plan_of_bytes _ c.args.span c.args.whole.now c.args.lengths.items (search rules) c.requires.span c.requires.entries
    c.requires.pieces
