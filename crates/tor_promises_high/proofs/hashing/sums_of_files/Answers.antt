-- what the library says
use Rattle.std.proofs.Common.{rules}
use Rattle.tor_promises_high.proofs.hashing.sums_of_files.Goals as goal

pub returns-clause-summed : goal.returns-clause-summed
returns-clause-summed g c = first_of (assumption, search rules)

pub returns-clause-whole : goal.returns-clause-whole
returns-clause-whole g c = first_of (assumption, search rules)

pub returns-clause-told : goal.returns-clause-told
returns-clause-told g c = first_of (assumption, search rules)

pub returns-clause-gave : goal.returns-clause-gave
returns-clause-gave g c = first_of (assumption, search rules)
