-- The words for a kind are those of the table.
use Rattle.std.proofs.Common.{refl}
use Rattle.tor_words.proofs.commands.make.plan_table.Goals as goal

pub returns-clause-rules : goal.returns-clause-rules
returns-clause-rules c = (_, refl, refl)
