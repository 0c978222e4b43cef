-- what the library says
use Rattle.std.proofs.Common.{rules}
use Rattle.tor_promises_high.proofs.rechecking.pieces_that_hold.Goals as goal

pub returns-clause-workers : goal.returns-clause-workers
returns-clause-workers g c = first_of (assumption, search rules)

pub returns-clause-found : goal.returns-clause-found
returns-clause-found g c = first_of (assumption, search rules)

pub returns-clause-counted : goal.returns-clause-counted
returns-clause-counted g c = first_of (assumption, search rules)

pub returns-clause-allowed : goal.returns-clause-allowed
returns-clause-allowed g c = first_of (assumption, search rules)

pub returns-clause-gave : goal.returns-clause-gave
returns-clause-gave g c = first_of (assumption, search rules)
