-- what the library says
use Rattle.std.proofs.Common.{rules}
use Rattle.tor_promises_high.proofs.hashing.hashes_of_pieces.Goals as goal

pub returns-clause-hashed : goal.returns-clause-hashed
returns-clause-hashed g c = first_of (assumption, search rules)

pub returns-clause-there : goal.returns-clause-there
returns-clause-there g c = first_of (assumption, search rules)

pub returns-clause-counted : goal.returns-clause-counted
returns-clause-counted g c = first_of (assumption, search rules)

pub returns-clause-gave : goal.returns-clause-gave
returns-clause-gave g c = first_of (assumption, search rules)
