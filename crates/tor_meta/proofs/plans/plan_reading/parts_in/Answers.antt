-- where there is no memory for the head, or for the files
use Rattle.std.proofs.Common.{arith}
use Rattle.std.proofs.lemmas.Grind.{common_steps}
use Rattle.tor_engine.proofs.ProvedLaws.{stopped}
use Rattle.tor_meta.proofs.plans.plan_reading.parts_in.Goals as goal

pub returns-in_err-head : goal.returns-in_err-head
returns-in_err-head c =
    let r = c.from_residual.result in
    let is = c.from_residual.ensures.1 in record {
      is = stopped _ _ r is;
      all = λ text lawful same. stopped _ _ r is;
    }

pub returns-in_err-files : goal.returns-in_err-files
returns-in_err-files c =
    let r = c.from_residual-in_err-files.result in
    let is = c.from_residual-in_err-files.ensures.1 in record {
      is = stopped _ _ r is;
      all = λ text lawful same. stopped _ _ r is;
    }

pub returns-clause-is : goal.returns-clause-is
returns-clause-is c = grind (arith, common_steps)
