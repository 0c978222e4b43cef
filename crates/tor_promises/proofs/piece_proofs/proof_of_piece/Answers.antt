-- what the library says
use Rattle.std.proofs.Common.{rules}
use Rattle.tor_promises.proofs.piece_proofs.proof_of_piece.Goals as goal

pub returns-clause-refused : goal.returns-clause-refused
returns-clause-refused c = first_of (assumption, search rules)

pub returns-clause-answered : goal.returns-clause-answered
returns-clause-answered c = first_of (assumption, search rules)

pub returns-clause-memory : goal.returns-clause-memory
returns-clause-memory c = first_of (assumption, search rules)

pub returns-clause-proved : goal.returns-clause-proved
returns-clause-proved c = first_of (assumption, search rules)

pub returns-clause-few : goal.returns-clause-few
returns-clause-few c = first_of (assumption, search rules)
