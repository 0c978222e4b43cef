-- the units so far were hashed, and none of them fails
use Rattle.std.proofs.Common.{◌≡◌, None, take}
use Rattle.std.specs.List.{enumerate_from}
use Rattle.tor_source.specs.Source.{SourceFacts}
use Rattle.tor_sums.specs.Fault.{first_of}
use Rattle.tor_engine.specs.steps.Failing.{failure_of}
use Rattle.tor_engine.proofs.workers.turn.hash_in_turn.Given as goal

abbrev pub invariant-units : goal.invariant-units
invariant-units g l = record {
  stands : g.W.UnitWork.stands l.work (take l.index l.units) l.sums.items l.worker;
  faultless : (facts : SourceFacts g.row.W-Fault.Denot) → g.W.UnitWork.is_steady l.work facts →
      first_of (failure_of (g.W.UnitWork.fault l.work facts)) (take l.index (enumerate_from l.first l.units)) ≡ None;
}
