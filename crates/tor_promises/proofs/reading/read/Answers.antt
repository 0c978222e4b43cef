-- what the library says
use Rattle.std.proofs.Common.{rules}
use Rattle.tor_promises.proofs.reading.read.Goals as goal

pub returns-clause-tree : goal.returns-clause-tree
returns-clause-tree c = first_of (assumption, search rules)

pub returns-clause-only : goal.returns-clause-only
returns-clause-only c = first_of (assumption, search rules)

pub returns-clause-fault : goal.returns-clause-fault
returns-clause-fault c = first_of (assumption, search rules)

pub returns-clause-memory : goal.returns-clause-memory
returns-clause-memory c = first_of (assumption, search rules)
