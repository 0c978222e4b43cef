-- what the library says
use Rattle.std.proofs.Common.{rules}
use Rattle.tor_promises.proofs.proving.collision.Goals as goal

pub returns : goal.returns
returns c = first_of (assumption, search rules)
