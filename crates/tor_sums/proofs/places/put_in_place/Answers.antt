-- two steps each time
use Rattle.std.proofs.Common.{◌≡◌, ◌*◌, ◌+◌, ℕ, suc, length, map, arith, ap, subst, ◌∙◌}
use Rattle.std.proofs.lemmas.List.{length-map}
use Rattle.std.proofs.lemmas.List.Sorted.{IsPermutation-trans, length_permutation}
use Rattle.std.specs.List.{range_with_len}
use Rattle.tor_sums.specs.steps.Places.{HasGone}
use Rattle.tor_sums.proofs.Placing.{ends}
use Rattle.tor_sums.proofs.places.put_in_place.Goals as goal

pub pairs-preserved : goal.pairs-preserved
pairs-preserved g c =
    let items = c.args.items.now in
    let k = c.pairs.counter in
    let one = c.step-place.new.items in
    let two = c.step-place-in-pairs.new.items in
    let before = c.pairs.invariant in
    let long = length_permutation items c.pairs.items before.same in
    let longer = length_permutation c.pairs.items one c.step-place.ensures.same in
    record {
      within = c.step-place-in-pairs.ensures.within;
      same = IsPermutation-trans items one two
          (IsPermutation-trans items c.pairs.items one before.same c.step-place.ensures.same)
          c.step-place-in-pairs.ensures.same;
      gone = λ number gives are.
          let first = c.step-place.ensures.step number (2 * k) gives (before.gone number gives are)
          (omega (arith, long, c.pairs-test.true)) in
          let second = c.step-place-in-pairs.ensures.step number (suc (2 * k)) gives first
          (omega (arith, long, longer, c.pairs-test.true)) in
          subst (λ (n : ℕ). HasGone n c.step-place-in-pairs.result (map number two))
          (let e : suc (suc (2 * k)) ≡ 2 * (k + 1) = omega arith in e) second;
    }

pub returns-clause-placed : goal.returns-clause-placed
returns-clause-placed g c = λ number gives are.
    let items = c.args.items.now in
    let now = c.pairs.items in
    let has = c.pairs.invariant.gone number gives are in
    let long = length_permutation items now c.pairs.invariant.same in
    let size = length-map now number in
    ends c.pairs.place (map number now)
    (subst (λ (n : ℕ). HasGone n c.pairs.place (map number now))
    (let e : 2 * c.pairs.counter ≡ 2 * length (map number now) =
    omega (arith, long, size, c.pairs-test.false, c.pairs.auto.counter-end) in e) has)
    ∙ ap (range_with_len 0) (size ∙ long)
