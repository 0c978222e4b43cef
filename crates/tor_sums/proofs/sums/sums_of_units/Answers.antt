use Rattle.std.proofs.Common.{◌≡◌, Bool, true, false, cond, refl, sym, ◌∙◌}
use Rattle.tor_sums.specs.Sums.{plan_content}
use Rattle.tor_sums.proofs.FileHashes.{unit_pieces_of_files}
use Rattle.tor_sums.proofs.sums.sums_of_units.Goals as goal

-- two values of which a test asks for one, alike where it does
where_true : {X : Type 0} (b : Bool) (x y z : X) → (b ≡ true → x ≡ y) → cond b x z ≡ cond b y z
where_true true x y z same = same refl
where_true false x y z same = refl

pub trees_of_plan-requires-clause-lengths : goal.trees_of_plan-requires-clause-lengths
trees_of_plan-requires-clause-lengths c =
    c.deref.ensures.value ∙ c.in_ok-lengths.ensures.items ∙ c.lengths.ensures

pub returns-clause-summed : goal.returns-clause-summed
returns-clause-summed c = λ contents fit sums.
    let plan = c.args.plan.now in
    c.sums_with.ensures.summed plan.kind plan.piece_length contents (plan_content plan contents)
    (fit ∙ sym (c.in_ok-lengths.ensures.items ∙ c.lengths.ensures))
    (c.in_ok-trees.ensures contents fit sums.nodes)
    (sums.pieces ∙ where_true _ _ _ _ (λ b. unit_pieces_of_files plan contents c.requires.planned b fit))
