-- what the library says
use Rattle.std.proofs.Common.{rules}
use Rattle.tor_promises.proofs.taking.next_chunk.Goals as goal

pub returns-clause-some : goal.returns-clause-some
returns-clause-some g c = first_of (assumption, search rules)

pub returns-clause-unmarked : goal.returns-clause-unmarked
returns-clause-unmarked g c = first_of (assumption, search rules)

pub returns-clause-none : goal.returns-clause-none
returns-clause-none g c = first_of (assumption, search rules)

pub returns-clause-after : goal.returns-clause-after
returns-clause-after g c = first_of (assumption, search rules)

pub returns-clause-lane : goal.returns-clause-lane
returns-clause-lane g c = first_of (assumption, search rules)
