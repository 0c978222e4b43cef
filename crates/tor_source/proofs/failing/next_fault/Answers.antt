use Rattle.std.proofs.Common.{◌<◌, arith, add-one}
use Rattle.tor_source.proofs.FirstFault.{first_fault-suc}
use Rattle.tor_source.proofs.failing.next_fault.Goals as goal

pub faults-preserved : goal.faults-preserved
faults-preserved c = record {
  after = c.nearer-next.ensures.after;
  within = omega (arith, c.nearer-next.ensures.within, c.faults.invariant.within);
  none_between = λ k later sooner.
      let before : k < c.faults.next = omega (arith, c.nearer-next.ensures.within, sooner) in
      rw add-one
      (first_fault-suc _ _ _ _ _ c.faults-test.true (c.faults.invariant.none_between k later before)
      (c.nearer-next.ensures.not_between k later sooner));
}
