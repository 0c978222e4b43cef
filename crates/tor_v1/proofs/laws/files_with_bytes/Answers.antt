use Rattle.tor_v1.proofs.ProvedLaws.{files_with_bytes}
use Rattle.tor_v1.proofs.laws.files_with_bytes.Goals as goal

pub returns : goal.returns
returns c = files_with_bytes
