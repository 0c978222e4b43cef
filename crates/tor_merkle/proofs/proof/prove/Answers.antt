-- each level of the tree has one sibling
use Rattle.tor_merkle.proofs.Names.{ℕ, ◌^◌, ◌≤◌, List, [], ◌∷◌, ◌++◌, length, get_or, IsTrue, subst, arith, ap, ap₂}
use Rattle.tor_merkle.proofs.Names.{◌∙◌, sym, zero-add, pow_mono, map-range_with_len_more, run_at, is_proof}
use Rattle.tor_merkle.proofs.Names.{sibling_index, padded_root, padded_subtree, zero_leaf}
use Rattle.tor_merkle.proofs.Height.{low_height}
use Rattle.tor_merkle.proofs.Siblings.{sibling_near, siblings_all, siblings_accepted}
use Rattle.tor_merkle.proofs.proof.prove.Goals as goal

pub height_of-levels-requires : goal.height_of-levels-requires
height_of-levels-requires c = low_height _ 36 (omega arith)

pub root_of_run-requires-clause-small : goal.root_of_run-requires-clause-small
root_of_run-requires-clause-small c =
    let few = low_height (length c.args.hashes.now) 36 (omega arith) in
    let low : c.levels.above ≤ 36 = omega (arith, c.height_of-levels.ensures) in
    let narrow : 2 ^ c.levels.above ≤ 2 ^ 36 = pow_mono low in
    let near = sibling_near c.args.index c.levels.above in
    rw c.sibling_index.ensures (omega (arith, few, narrow, near))

pub levels-preserved : goal.levels-preserved
levels-preserved c =
    let hashes = c.args.hashes.now in
    let above = c.levels.above in
    let sibling =
    λ (level : ℕ). padded_subtree level c.args.level (run_at (2 ^ level) hashes (sibling_index c.args.index level)) in
    ◌∙◌ {A = List (List ℕ)} c.in_ok-push.ensures.items
    (ap₂ (λ xs x. xs ++ x ∷ []) c.levels.invariant
    (c.root_of_run.ensures
    ∙ ap (λ index. padded_subtree above c.args.level (run_at (2 ^ above) hashes index)) c.sibling_index.ensures)
    ∙ sym (map-range_with_len_more sibling 0 above above (zero-add above)))

pub returns-clause-siblings : goal.returns-clause-siblings
returns-clause-siblings c =
    c.levels.invariant
    ∙ siblings_all c.args.level c.args.hashes.now c.args.index c.levels.above
    (omega (arith, c.height_of-levels.ensures))

pub returns-clause-accepted : goal.returns-clause-accepted
returns-clause-accepted c =
    let level = c.args.level in
    let hashes = c.args.hashes.now in
    let index = c.args.index in
    let all =
    c.levels.invariant
    ∙ siblings_all level hashes index c.levels.above (omega (arith, c.height_of-levels.ensures)) in
    let P : List (List ℕ) → Type 0 =
    λ siblings. IsTrue (is_proof (padded_root level hashes) (length hashes) level index
    (get_or hashes index zero_leaf) siblings) in
    subst P (sym all) (siblings_accepted level hashes index (omega arith))
