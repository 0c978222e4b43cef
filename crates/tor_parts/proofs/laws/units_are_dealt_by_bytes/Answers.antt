use Rattle.tor_parts.proofs.ProvedLaws.{units_are_dealt_by_bytes}
use Rattle.tor_parts.proofs.laws.units_are_dealt_by_bytes.Goals as goal

pub returns : goal.returns
returns c = units_are_dealt_by_bytes
