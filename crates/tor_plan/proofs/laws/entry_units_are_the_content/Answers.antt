use Rattle.tor_plan.proofs.ProvedLaws.{entry_units_are_the_content}
use Rattle.tor_plan.proofs.laws.entry_units_are_the_content.Goals as goal

pub returns : goal.returns
returns c = entry_units_are_the_content
