use Rattle.tor_v1.proofs.ProvedLaws.{facts-v1_entries}
use Rattle.tor_v1.proofs.laws.entries_of_files.Goals as goal

pub returns : goal.returns
returns c = facts-v1_entries
