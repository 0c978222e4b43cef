-- what the library says
use Rattle.std.proofs.Common.{rules}
use Rattle.tor_promises.proofs.entries.entries_of.Goals as goal

pub returns-clause-made : goal.returns-clause-made
returns-clause-made c = first_of (assumption, search rules)

pub returns-clause-reserved : goal.returns-clause-reserved
returns-clause-reserved c = first_of (assumption, search rules)
