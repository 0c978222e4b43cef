use Rattle.{std.proofs.Common.lt-ltb, tor_board.proofs.Names.{ap, arith, false, le-ltb, middle, sym, true, ℕ, ◌+◌, ◌-◌}}
use Rattle.tor_board.proofs.{Names.{◌/◌, ◌<◌, ◌∙◌, ◌≤◌}, Rising.{fork, split_fits, up_covers}}
use Rattle.tor_board.proofs.tree.Tree.risen.Goals as goal

pub middle-requires : goal.middle-requires
middle-requires c = split_fits c.args.self.now c.requires.low _ _ c.levels.invariant.low c.levels.invariant.within

pub levels-preserved : goal.levels-preserved
levels-preserved c = let t = c.args.self.now in let s = c.levels.spot in let i = c.levels.invariant in
    let past : t.count ≤ middle s.level (s.index / 2) = omega (arith, c.middle.ensures, c.if-middle-self.true) in
    let step = fork t (t.height - s.level) (t.height - (s.level + 1)) s.level (s.level + 1) s.index false
    (omega (arith, c.levels-test.true)) (omega arith) (le-ltb (middle s.level (s.index / 2)) t.count past) in record {
      low = omega (arith, c.levels-test.true);
      within = up_covers t s.level s.index i.within past;
      level = ap (λ (p : ℕ × ℕ). p.0) (sym step.0) ∙ i.level;
      index = ap (λ (p : ℕ × ℕ). p.1) (sym step.0) ∙ i.index;
      hash = grind arith;
    }

pub returns-else-middle-self : goal.returns-else-middle-self
returns-else-middle-self c = let t = c.args.self.now in let s = c.levels.spot in let i = c.levels.invariant in
    let low : middle s.level (s.index / 2) < t.count = omega (arith, c.middle.ensures, c.if-middle-self.false) in
    let stop = fork t (t.height - s.level) (t.height - (s.level + 1)) s.level (s.level + 1) s.index true
    (omega (arith, c.levels-test.true)) (omega arith) (lt-ltb (middle s.level (s.index / 2)) t.count low) in record {
      level = ap (λ (p : ℕ × ℕ). p.0) (sym stop.0) ∙ i.level;
      index = ap (λ (p : ℕ × ℕ). p.1) (sym stop.0) ∙ i.index;
      hash = sym (stop.1 s.hash) ∙ i.hash;
    }
