use Rattle.tor_recheck.proofs.MissingFiles.{bad_beside_missing, held_has_bytes}
use Rattle.tor_recheck.proofs.laws.files_are_bad_beside_missing_ones.Goals as goal

pub returns : goal.returns
returns c = record { bytes = held_has_bytes; bad = bad_beside_missing }
