-- those so far have their own, and there is enough for those that are left
use Rattle.std.proofs.Common.{◌≡◌, ◌≤◌, ◌++◌, drop, length, sum_by, take}
use Rattle.tor_sums.specs.steps.Owing.{paid_each}
use Rattle.tor_sums.proofs.paying.pay.Given as goal

abbrev pub invariant-items : goal.invariant-items
invariant-items g l = record {
  enough : sum_by g.T.Owed.owed (drop l.item-index l.items) ≤ length l.rest;
  paid : take l.item-index l.items ++ paid_each g.T.Owed.owed g.T.Owed.paid (drop l.item-index l.items) l.rest
      ≡ paid_each g.T.Owed.owed g.T.Owed.paid l.fn.items l.sums;
  end : drop (sum_by g.T.Owed.owed (drop l.item-index l.items)) l.rest ≡ drop (sum_by g.T.Owed.owed l.fn.items) l.sums;
}
