-- zeros stand behind what the tree has
use Rattle.std.proofs.Common.{◌++◌, ◌∙◌, ◌-◌, ap, arith, refl}
use Rattle.tor_v1.specs.Piece.{zeros}
use Rattle.tor_sums.specs.steps.Room.{count_in}
use Rattle.tor_sums.proofs.Waiting.{takes_more_zeros, takes_none}
use Rattle.tor_sums.proofs.worker.WorkerSums.feed_zeros.Goals as goal

pub returns-then-count-eq0-clause-taken : goal.returns-then-count-eq0-clause-taken
returns-then-count-eq0-clause-taken c = λ kind p part unit taken.
    takes_none kind p c.args.self.now part unit c.args.count c.if-count-eq0.true taken

pub zeros-init : goal.zeros-init
zeros-init c =
    let room = ap count_in c.in_ok-feed_tree.ensures.room in
    record {
      within = omega arith;
      treed = omega (arith, c.in_ok-feed_tree.ensures.treed, c.count_held.ensures, room, c.args.self.now.marked);
      begun = refl;
      tree = refl;
      taken = λ kind p bytes unit taken. takes_none kind p _ bytes unit _ (omega arith) taken;
    }

pub zeros-preserved : goal.zeros-preserved
zeros-preserved c =
    let width = c.in_ok-width.width in
    let put = c.in_ok-width.ensures in
    let old = c.zeros.invariant in
    record {
      within = omega (arith, old.within);
      treed = put.treed;
      begun = put.begun ∙ old.begun;
      tree = put.tree ∙ old.tree;
      taken = λ kind p bytes unit taken.
          takes_more_zeros kind p _ bytes unit (c.args.count - c.zeros.left) width _
          (omega (arith, old.within, put.some.1))
          (put.taken kind p bytes (unit ++ zeros (c.args.count - c.zeros.left)) (old.taken kind p bytes unit taken));
    }

-- the next tree has no byte yet, as before
pub returns-clause-treed : goal.returns-clause-treed
returns-clause-treed c = λ plan treed.
    let same = c.zeros.invariant.tree
    ∙ c.in_ok-feed_tree.ensures.tree (omega (arith, treed.all, c.count_held.ensures)) in
    record {
      all = c.zeros.invariant.treed;
      tree = same ∙ treed.tree;
      begun = c.zeros.invariant.begun ∙ c.in_ok-feed_tree.ensures.begun ∙ treed.begun;
    }
