-- nothing was cut
use Rattle.tor_plan.proofs.Names.{refl}
use Rattle.tor_plan.proofs.Cut.{cut_none}
use Rattle.tor_plan.proofs.unit_cut.UnitCut.new.Goals as goal

pub returns-clause-cut : goal.returns-clause-cut
returns-clause-cut c = λ unit. cut_none unit _ c.new.ensures.items c.empty.ensures refl
