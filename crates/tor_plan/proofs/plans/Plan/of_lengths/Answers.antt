-- the entries are files of these lengths, and their whole is the one that was made
use Rattle.tor_plan.proofs.Names.{◌≡◌, ◌∙◌, sym, ap, subst, All, sum, ◌≤◌, IfOk, List, ℕ, MAX_LENGTH, MAX_TOTAL}
use Rattle.tor_plan.proofs.Names.{PlanFacts}
use Rattle.tor_plan.proofs.Names.{unnamed, whole_unit}
use Rattle.tor_plan.proofs.FileSizes.{are_whole, plan_is}
use Rattle.tor_plan.proofs.Unnamed.{lengths_of_unnamed, unnamed_unpadded, unpadded_list, whole_unnamed}
use Rattle.tor_plan.proofs.plans.Plan.of_lengths.Goals as goal

pub of_whole-requires-clause-entries : goal.of_whole-requires-clause-entries
of_whole-requires-clause-entries c =
    let ms = c.args.lengths.items in
    let is = sym (lengths_of_unnamed ms) in
    are_whole (unpadded_list c.args.piece_length (unnamed ms) (unnamed_unpadded ms) c.args.kind c.requires.joined
    (subst (λ (xs : List ℕ). sum xs ≤ MAX_TOTAL) is c.requires.total)
    (subst (All (λ m. m ≤ MAX_LENGTH)) is c.requires.files))
    (c.in_ok-whole.ensures ∙ ap (λ xs. whole_unit (unnamed xs)) c.deref.ensures.value) is

pub returns : goal.returns
returns c =
    let kind = c.args.kind in
    let p = c.args.piece_length in
    let ms = c.args.lengths.items in
    let whole = c.in_ok-whole.whole in
    λ entries none is. subst (λ (all : PlanFacts). IfOk c.of_whole.result (λ plan. plan ≡ all))
    (plan_is kind p c.args.span whole ms
    (are_whole (unpadded_list p entries none kind c.requires.joined
    (subst (λ (xs : List ℕ). sum xs ≤ MAX_TOTAL) (sym is) c.requires.total)
    (subst (All (λ m. m ≤ MAX_LENGTH)) (sym is) c.requires.files))
    (c.in_ok-whole.ensures ∙ ap (λ xs. whole_unit (unnamed xs)) (c.deref.ensures.value ∙ sym is)
    ∙ sym (whole_unnamed 0 entries none)) (sym is)) c.requires.span c.requires.pieces) c.of_whole.ensures
