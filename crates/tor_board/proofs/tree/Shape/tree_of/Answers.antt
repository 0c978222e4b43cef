use Rattle.tor_board.proofs.{Names.{arith, length, ◌+◌, ◌-◌, ◌/◌, ◌<◌}, Starts.{before_all, none_has, number_inside, tree_read}, Sums.{here, within}}
use Rattle.tor_board.proofs.tree.Shape.tree_of.Goals as goal

pub halves-init : goal.halves-init
halves-init c = record {
  order = omega arith;
  end = omega arith;
  before = λ k a e h. omega arith;
  after = λ k a e h. omega (arith, within _ k a e);
}

pub halves-preserved-then-starts-middle : goal.halves-preserved-then-starts-middle
halves-preserved-then-starts-middle c = let i = c.halves.invariant in
    let there = here c.args.starts.now (c.halves.low + (c.halves.high - c.halves.low) / 2) (0, 0)
    (omega (arith, c.halves-test.true, i.end)) in record {
      order = omega (arith, c.halves-test.true);
      end = omega (arith, i.end, c.halves-test.true);
      before = λ k a e h. omega (arith, c.requires.starts.rise k _ a _ e there (omega arith), c.if-starts-middle.true);
      after = i.after;
    }

pub halves-preserved : goal.halves-preserved
halves-preserved c = let i = c.halves.invariant in
    let there = here c.args.starts.now (c.halves.low + (c.halves.high - c.halves.low) / 2) (0, 0)
    (omega (arith, c.halves-test.true, i.end)) in record {
      order = omega (arith, c.halves-test.true);
      end = omega (arith, i.end, c.halves-test.true);
      before = i.before;
      after = λ k a e h. omega (arith, c.requires.starts.rise _ k _ a there e h, c.if-starts-middle.false);
    }

pub returns-then-low-eq0-clause-none : goal.returns-then-low-eq0-clause-none
returns-then-low-eq0-clause-none c = before_all c.requires.shape.2 c.args.starts.now c.requires.starts c.args.unit
    (λ k a e. c.halves.invariant.after k a e (omega (arith, c.halves-test.false, c.if-low-eq0.true)))

pub index-tree-requires : goal.index-tree-requires
index-tree-requires c = let i = c.halves.invariant in
    let inside = number_inside c.requires.shape.2 c.args.starts.now c.requires.starts (c.halves.low - 1)
    (omega (arith, i.order, i.end, c.if-low-eq0.false)) in grind (arith, inside)

pub overflow_sub-unit : goal.overflow_sub-unit
overflow_sub-unit c = let i = c.halves.invariant in let last = c.halves.low - 1 in
    let inside : last < length c.args.starts.now = omega (arith, i.order, i.end, c.if-low-eq0.false) in
    let r = tree_read c.requires.shape.2 c.args.starts.now c.requires.starts last _ inside c.index-tree.ensures in
    omega (arith, r.1, i.before last _ (here c.args.starts.now last (0, 0) inside) (omega (arith, c.if-low-eq0.false)))

pub returns-then-unit-tree-clause-some : goal.returns-then-unit-tree-clause-some
returns-then-unit-tree-clause-some c = let i = c.halves.invariant in let last = c.halves.low - 1 in
    let inside : last < length c.args.starts.now = omega (arith, i.order, i.end, c.if-low-eq0.false) in
    let r = tree_read c.requires.shape.2 c.args.starts.now c.requires.starts last _ inside c.index-tree.ensures in
    let le = i.before last _ (here c.args.starts.now last (0, 0) inside) (omega (arith, c.if-low-eq0.false)) in
    (r.0, omega (arith, r.1, le), omega (arith, c.if-unit-tree.true))

pub returns-else-unit-tree-clause-none : goal.returns-else-unit-tree-clause-none
returns-else-unit-tree-clause-none c = let i = c.halves.invariant in let last = c.halves.low - 1 in
    let inside : last < length c.args.starts.now = omega (arith, i.order, i.end, c.if-low-eq0.false) in
    let r = tree_read c.requires.shape.2 c.args.starts.now c.requires.starts last _ inside c.index-tree.ensures in
    let le = i.before last _ (here c.args.starts.now last (0, 0) inside) (omega (arith, c.if-low-eq0.false)) in
    none_has c.requires.shape.2 c.args.starts.now c.requires.starts c.halves.low c.args.unit
    (omega (arith, c.if-low-eq0.false)) (omega (arith, i.order, i.end))
    (λ k b e h. i.after k b e (omega (arith, c.halves-test.false, h))) _ c.index-tree.ensures
    (omega (arith, r.1, le, c.if-unit-tree.false))
