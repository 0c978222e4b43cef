-- the tree was ended with what it lacked of the unit
use Rattle.std.proofs.Common.{refl}
use Rattle.tor_sums.proofs.PaidSums.{if_ok_more}
use Rattle.tor_sums.proofs.Waiting.{ended_tree, lacked, next_tree}
use Rattle.tor_sums.proofs.worker.WorkerSums.end_tree.Goals as goal

pub returns-clause-tree : goal.returns-clause-tree
returns-clause-tree c = λ kind p bytes unit taken.
    let last = c.split_at.result.1.now in
    if_ok_more c.end_tree-ended.result _ _
    (ended_tree kind p bytes unit c.args.self.now taken last
    (lacked c.args.self.now c.count_held-held.result _ last c.count_held-held.ensures c.front.ensures.value
    c.split_at.ensures.back))
    (c.end_tree-ended.ensures.tree kind p taken.fed_bytes taken.fed_unit taken.fed)

pub returns-clause-next : goal.returns-clause-next
returns-clause-next c = λ bytes unit taken.
    let plan = c.args.plan.now in
    record {
      taken = next_tree plan.kind plan.piece_length bytes unit c.args.self.now taken _ refl c.count_held-held.ensures
          (c.end_tree-ended.ensures.next plan.kind plan.piece_length taken.fed_bytes taken.fed_unit refl refl
          taken.fed);
      begun = refl;
    }
