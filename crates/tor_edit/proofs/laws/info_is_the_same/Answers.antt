use Rattle.tor_edit.proofs.Values.{info_bytes_are_kept, info_is_kept}
use Rattle.tor_edit.proofs.laws.info_is_the_same.Goals as goal

pub returns : goal.returns
returns c = record { value = info_is_kept; bytes = info_bytes_are_kept }
