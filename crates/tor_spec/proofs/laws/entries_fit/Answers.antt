use Rattle.tor_spec.proofs.ProvedLaws.{lettered_lengths, padding_lengths, small_lengths}
use Rattle.tor_spec.proofs.laws.entries_fit.Goals as goal

pub returns : goal.returns
returns c = record { small = small_lengths; lettered = lettered_lengths; padding = padding_lengths }
