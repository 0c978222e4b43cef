use Rattle.tor_plan.proofs.ProvedLaws.{pieces_are_within_files}
use Rattle.tor_plan.proofs.laws.pieces_are_within_files.Goals as goal

pub returns : goal.returns
returns c = pieces_are_within_files
