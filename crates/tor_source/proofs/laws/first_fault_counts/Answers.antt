use Rattle.tor_source.proofs.ProvedLaws.{first_fault_counts}
use Rattle.tor_source.proofs.laws.first_fault_counts.Goals as goal

pub returns : goal.returns
returns c = first_fault_counts
