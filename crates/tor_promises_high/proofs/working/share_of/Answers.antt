-- what the library says
use Rattle.std.proofs.Common.{rules}
use Rattle.tor_promises_high.proofs.working.share_of.Goals as goal

pub returns-clause-seat : goal.returns-clause-seat
returns-clause-seat g c = first_of (assumption, search rules)

pub returns-clause-idle : goal.returns-clause-idle
returns-clause-idle g c = first_of (assumption, search rules)

pub returns-clause-room : goal.returns-clause-room
returns-clause-room g c = first_of (assumption, search rules)

pub returns-clause-done : goal.returns-clause-done
returns-clause-done g c = first_of (assumption, search rules)

pub returns-clause-failed : goal.returns-clause-failed
returns-clause-failed g c = first_of (assumption, search rules)

pub returns-clause-kept : goal.returns-clause-kept
returns-clause-kept g c = first_of (assumption, search rules)

pub returns-clause-given : goal.returns-clause-given
returns-clause-given g c = first_of (assumption, search rules)

pub returns-clause-within : goal.returns-clause-within
returns-clause-within g c = first_of (assumption, search rules)

pub returns-clause-summed : goal.returns-clause-summed
returns-clause-summed g c = first_of (assumption, search rules)

pub returns-clause-fault : goal.returns-clause-fault
returns-clause-fault g c = first_of (assumption, search rules)

pub returns-clause-gave : goal.returns-clause-gave
returns-clause-gave g c = first_of (assumption, search rules)
