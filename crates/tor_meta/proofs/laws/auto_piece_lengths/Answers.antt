use Rattle.tor_meta.proofs.PieceLengths.{auto_grows, auto_is_allowed, auto_makes_few}
use Rattle.tor_meta.proofs.laws.auto_piece_lengths.Goals as goal

pub returns : goal.returns
returns c = record { allowed = auto_is_allowed; grows = auto_grows; few = auto_makes_few }
