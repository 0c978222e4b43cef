use Rattle.tor_source.proofs.ProvedLaws.{faults_are_listed}
use Rattle.tor_source.proofs.laws.faults_are_listed.Goals as goal

pub returns : goal.returns
returns c = faults_are_listed
