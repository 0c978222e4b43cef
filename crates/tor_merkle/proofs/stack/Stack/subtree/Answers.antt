-- the climb, from the lowest digit that is 1
use Rattle.tor_merkle.proofs.Names.{◌≡◌, ℕ, ◌-◌, ◌*◌, ◌%◌, ◌^◌, ◌<◌, ◌≤◌, [], length, get_or, arith, ap, ◌∙◌, add-one}
use Rattle.tor_merkle.proofs.Names.{mul-le-mul_right, get_or_default, padded_subtree, node_of, zero_leaf}
use Rattle.tor_merkle.proofs.BinaryDigits.{power_within}
use Rattle.tor_merkle.proofs.Root.{last_whole, last_left, last_right, last_root}
use Rattle.tor_merkle.proofs.stack.Stack.subtree.Goals.{then-index-eq1, else-index-eq1}
use Rattle.tor_merkle.proofs.stack.Stack.subtree.Goals as goal

-- a power of two that divides a count is at most the count
lowest_within : (count odd digit most : ℕ) → count ≡ odd * 2 ^ digit → odd % 2 ≡ 1 → count ≤ 2 ^ most → digit ≤ most
lowest_within count odd digit most e one le =
    power_within digit most (omega (arith, e, mul-le-mul_right {m = 1} {n = odd} (2 ^ digit) (omega arith)))

pub bounds-self-inside-lowest : goal.bounds-self-inside-lowest
bounds-self-inside-lowest c =
    let lowest = c.lowest_one-lowest.ensures in
    let low =
    lowest_within c.self.inside.count _ _ (36 - c.self.inside.level) lowest.whole lowest.odd c.self.invariant.small in
    omega arith

pub climb-init : goal.climb-init
climb-init c =
    let s = c.self.inside in
    let digit = c.lowest_one-lowest.result.0 in
    let lowest = c.lowest_one-lowest.ensures in
    let low = lowest_within s.count _ _ (36 - s.level) lowest.whole lowest.odd c.self.invariant.small in
    let kept : get_or s.tops digit [] ≡ get_or s.tops digit zero_leaf =
    get_or_default s.tops digit [] zero_leaf (omega (arith, c.self.invariant.levels)) in
    rw kept
    (last_whole s.level s.count s.tops s.pushed.items c.self.invariant
    digit c.lowest_one-lowest.result.1 lowest.whole lowest.odd)

pub climb-preserved : goal.climb-preserved
climb-preserved c =
    let level = c.self.inside.level in
    let count = c.self.inside.count in
    let tops = c.self.inside.tops in
    let hashes = c.self.inside.pushed.items in
    let wide = c.self.invariant.counted ∙ ap (λ v. length v.hashes) c.self.view_is in
    let levels = ap (λ v. v.level) c.self.view_is in
    let within : c.climb.digit < length tops = omega (arith, c.requires.low, c.self.invariant.levels) in
    elim c.if-index-eq1.branch [
      | then-index-eq1 w ↦
          let kept = get_or_default tops c.climb.digit [] zero_leaf within in
          rw (w.top-is ∙ w.pair-top.ensures ∙ ap (λ x. node_of x c.climb.top) kept, add-one)
          (last_right level count tops hashes c.self.invariant
          c.climb.digit c.climb.index c.climb.top c.climb.invariant w.if-index-eq1.true)
      | else-index-eq1 w ↦
          rw (w.top-is ∙ w.pair-top-else-index-eq1.ensures ∙ ap (node_of c.climb.top) w.zero.ensures, add-one)
          (last_left level count tops hashes c.self.invariant
          c.climb.digit c.climb.index c.climb.top c.climb.invariant
          (let even : c.climb.index % 2 ≡ 0 = omega (arith, w.if-index-eq1.false) in even))
    ]

pub returns : goal.returns
returns c =
    let count = c.self.invariant.counted ∙ ap (λ v. length v.hashes) c.self.view_is in
    let s = c.self.inside in
    let lowest = c.lowest_one-lowest.ensures in
    let low =
    lowest_within s.count _ _ c.args.height lowest.whole lowest.odd (omega (arith, count, c.requires.wide)) in
    let end : c.climb.digit ≡ c.args.height = omega arith in
    last_root s.level s.count s.tops s.pushed.items c.self.invariant
    c.climb.digit c.climb.index c.climb.top c.climb.invariant
    (rw end (omega (arith, count, c.requires.wide)))
    ∙ ap (λ k. padded_subtree k s.level s.pushed.items) end
    ∙ ap (λ v. padded_subtree c.args.height v.level v.hashes) c.self.view_is
